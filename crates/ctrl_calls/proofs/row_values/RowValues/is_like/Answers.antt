use Rattle.std.proofs.Common.{sym, ◌∙◌, rules}
use Rattle.ctrl_calls.proofs.FormLemmas.{like_next, like_not}
use Rattle.ctrl_calls.proofs.row_values.RowValues.is_like.Goals as goal

-- a value differs
pub returns-then-not-has : goal.returns-then-not-has
returns-then-not-has c = (
  λ h. absurd (cc),
  λ same. absurd (like_not c.args.self.now c.args.values.now c.loop-place.place c.index-values-place.result (search rules) c.index-values-place.is (sym c.has.ensures ∙ c.if-not-has.true) same),
)

-- one more value is the same
pub loop-place-preserved : goal.loop-place-preserved
loop-place-preserved c =
    like_next c.args.self.now c.args.values.now c.loop-place.place c.index-values-place.result c.loop-place.invariant (search rules) (search rules) c.index-values-place.is (sym c.has.ensures ∙ c.if-not-has.false)

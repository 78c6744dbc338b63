use Rattle.std.proofs.Common.{rules, sym, ◌≡◌, ◌∙◌, ◌+◌, ◌++◌, ℕ, [], ap, Option, Vec, Global}
use Rattle.std.specs.List.{cons_option}
use Rattle.std.proofs.lemmas.List.{append-nil}
use Rattle.ctrl_types.specs.declared.ids.Pair.{Pair}
use Rattle.ctrl_types.specs.Pairs.{last_value}
use Rattle.req_book.specs.Requests.{latest, pair_of}
use Rattle.req_book.proofs.SettingLemmas.{pairs_more, pairs_past, pairs_below}
use Rattle.req_book.proofs.settings.latest.Goals.{in-Some+in_ok-push, in_default}
use Rattle.req_book.proofs.settings.latest.Goals as goal

-- no control below the first has a pair
pub loop-control-init : goal.loop-control-init
loop-control-init c = record {
  ends = c.next_named-control.ensures.ends;
  so_far = pairs_past (c.args.pairs.now ++ c.args.more.now) 0 c.args.controls c.next_named-control.result c.new-all.result.items c.next_named-control.ensures (search rules);
}

-- the next control has its pair, and those up to the one behind it have none
pub loop-control-preserved : goal.loop-control-preserved
loop-control-preserved c =
    let f : ℕ → Option Pair = λ i. pair_of i (last_value (c.args.pairs.now ++ c.args.more.now) i) in
    record {
      ends = c.next_named-control-in-loop-control.ensures.ends;
      so_far = pairs_past (c.args.pairs.now ++ c.args.more.now) (c.loop-control.control + 1) c.args.controls c.next_named-control-in-loop-control.result c.match-latest_pair.all.items c.next_named-control-in-loop-control.ensures
          (elim c.match-latest_pair.branch [
            | in-Some+in_ok-push w ↦ pairs_more f c.loop-control.control c.loop-control.all.items c.match-latest_pair.all.items c.latest_pair.result c.loop-control.invariant.so_far c.latest_pair.ensures
                (ap (λ (v : Vec Pair Global). v.items) w.all-is ∙ w.in_ok-push.ensures.items ∙ ap (λ (o : Option Pair). c.loop-control.all.items ++ cons_option o []) (sym w.in-Some.is))
            | in_default w ↦ pairs_more f c.loop-control.control c.loop-control.all.items c.match-latest_pair.all.items c.latest_pair.result c.loop-control.invariant.so_far c.latest_pair.ensures
                (ap (λ (v : Vec Pair Global). v.items) w.all-is ∙ sym (append-nil c.loop-control.all.items) ∙ ap (λ (o : Option Pair). c.loop-control.all.items ++ cons_option o []) (sym w.in_default.is))
          ]);
    }

-- no control is left
pub returns : goal.returns
unfolding latest
returns c =
    let last : c.loop-control.control ≡ c.args.controls = search rules in
    pairs_below (λ i. pair_of i (last_value (c.args.pairs.now ++ c.args.more.now) i)) c.loop-control.control c.args.controls c.loop-control.all.items c.loop-control.invariant.so_far last

use Rattle.std.proofs.Common.{◌≡◌, ◌%◌, ◌*◌, ◌^◌, ℕ, bit_or, get_or, set, sym, subst}
use Rattle.std.proofs.lemmas.List.{get_or_read}
use Rattle.ctrl_events.specs.Heard.{IsHeard}
use Rattle.ctrl_events.proofs.MarkLemmas.{marked, marks_kept, marks_grown}
use Rattle.ctrl_events.proofs.marks.hear.Goals as goal

pub returns-clause-heard : goal.returns-clause-heard
returns-clause-heard c =
    let read : c.index-bits.result.now ≡ get_or c.make_marks.new.heard.items c.args.control 0 = get_or_read c.make_marks.new.heard.items c.args.control c.index-bits.result.now c.in_ok-make_marks.ensures.bound c.index-bits.ensures 0 in
    subst (λ (n : ℕ). IsHeard (set c.make_marks.new.heard.items c.args.control (bit_or n (1 * 2 ^ (c.args.place % 64) % 18446744073709551616))) c.args.place c.args.control) (sym read) (
    marked c.make_marks.new.heard.items c.args.place c.args.control c.in_ok-make_marks.ensures.bound
    )

pub returns-clause-kept : goal.returns-clause-kept
returns-clause-kept c = λ j d is.
    let read : c.index-bits.result.now ≡ get_or c.make_marks.new.heard.items c.args.control 0 = get_or_read c.make_marks.new.heard.items c.args.control c.index-bits.result.now c.in_ok-make_marks.ensures.bound c.index-bits.ensures 0 in
    subst (λ (n : ℕ). IsHeard (set c.make_marks.new.heard.items c.args.control (bit_or n (1 * 2 ^ (c.args.place % 64) % 18446744073709551616))) j d) (sym read) (
    marks_kept c.make_marks.new.heard.items c.args.place c.args.control j d c.in_ok-make_marks.ensures.bound (marks_grown c.args.heard.now.items c.make_marks.new.heard.items j d c.make_marks.ensures.kept is)
    )

use Rattle.std.proofs.Common.{arith, ◌≡◌, ◌%◌, ◌*◌, ◌^◌, ◌∙◌, ◌<◌, ℕ, bit_or, get_or, set, length, sym, subst}
use Rattle.std.proofs.lemmas.List.{get_or_read}
use Rattle.ctrl_events.specs.Heard.{IsHeard}
use Rattle.ctrl_events.proofs.MarkLemmas.{marked, marks_kept, same_number}
use Rattle.ctrl_events.proofs.marks.mark.Goals as goal

pub returns-clause-marked : goal.returns-clause-marked
returns-clause-marked c = λ d is within.
    let same : c.in-Some.control ≡ d = same_number c.in-Some.control d (sym c.in-Some.is ∙ is) in
    let fits : c.in-Some.control < length c.args.heard.now.items = subst (λ (k : ℕ). k < length c.args.heard.now.items) (sym same) within in
    let read : c.index-bits.result.now ≡ get_or c.args.heard.now.items c.in-Some.control 0 = get_or_read c.args.heard.now.items c.in-Some.control c.index-bits.result.now fits c.index-bits.ensures 0 in
    subst (λ (k : ℕ). IsHeard (set c.args.heard.now.items c.in-Some.control (bit_or c.index-bits.result.now (1 * 2 ^ (c.args.place % 64) % 18446744073709551616))) c.args.place k) same (
    subst (λ (n : ℕ). IsHeard (set c.args.heard.now.items c.in-Some.control (bit_or n (1 * 2 ^ (c.args.place % 64) % 18446744073709551616))) c.args.place c.in-Some.control) (sym read) (
    marked c.args.heard.now.items c.args.place c.in-Some.control fits
    ))

pub returns-clause-kept : goal.returns-clause-kept
returns-clause-kept c = λ p d is.
    let fits : c.in-Some.control < length c.args.heard.now.items = omega arith in
    let read : c.index-bits.result.now ≡ get_or c.args.heard.now.items c.in-Some.control 0 = get_or_read c.args.heard.now.items c.in-Some.control c.index-bits.result.now fits c.index-bits.ensures 0 in
    subst (λ (n : ℕ). IsHeard (set c.args.heard.now.items c.in-Some.control (bit_or n (1 * 2 ^ (c.args.place % 64) % 18446744073709551616))) p d) (sym read) (
    marks_kept c.args.heard.now.items c.args.place c.in-Some.control p d fits is
    )

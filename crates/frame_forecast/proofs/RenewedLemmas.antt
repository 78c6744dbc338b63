-- A frame whose values inside a change are those of its pairs, laid over what stands before it and followed, is right, where those outside are as they were.
use Rattle.std.proofs.Common.{◌≡◌, ◌∙◌, ◌<◌, ℕ, Bool, true, false, if◌then◌else◌, List, length, Option, None, Some, is_some, unwrap_or, refl, sym, ap, arith}
use Rattle.std.proofs.lemmas.List.{ext_get_or}
use Rattle.ctrl_types.specs.Values.{zero_value}
use Rattle.ctrl_types.specs.declared.ids.Pair.{Pair}
use Rattle.ctrl_types.specs.declared.value.CtrlValue.{CtrlValue}
use Rattle.ctrl_calls.specs.Meanings.{Verdicts}
use Rattle.ctrl_settle.specs.Control.{Control}
use Rattle.ctrl_settle.specs.Settle.{settled_anew}
use Rattle.range_followers.specs.Wanted.{follower_of}
use Rattle.ctrl_handlers.specs.Plan.{PlanData, IsPlan, IsFollowing}
use Rattle.ctrl_clusters.specs.Following.{AgreeOutside, IsClosed, followed, laid_over, range_under, ranges_under, under_values}
use Rattle.ctrl_clusters.specs.Overlay.{overlay}
use Rattle.ctrl_clusters.specs.Rows.{AreControlsOf, Grabs, Values, value_at}
use Rattle.ctrl_clusters.proofs.FollowingLemmas.{agreed_range, controls_under, found_follows, length_laid, none_by, out_of_reach, range_anew, value_stays, value_then, value_untouched}
use Rattle.ctrl_clusters.proofs.OutsideLemmas.{laid_agree, overlaid_agree}
use Rattle.ctrl_clusters.proofs.OverlayLemmas.{length_overlay}
use Rattle.frame_forecast.specs.Sparse.{HasLinks, IsRightOver, SparseFrame, can_move, linked, value_given}
use Rattle.frame_forecast.proofs.SparseLemmas.{length_linked, linked_at, none_of, unmoved_cluster, unmoved_source}

-- what pairs make of values under the ranges that these give
abbrev pub laid_first : Verdicts → PlanData → List Control → Grabs → Values → List Pair → Values
laid_first verdicts plan controls grabs values pairs = overlay verdicts plan (ranges_under plan.followers controls values) values grabs pairs

-- While a frame is renewed: it asks for the same, gives to the same controls, and outside a change what it gave.
pub record IsRenewing (plan : PlanData) (inside : ℕ → Bool) (old new : SparseFrame) : Type 0 where
  pub asked : new.asked ≡ old.asked
  pub has : HasLinks plan new
  pub outside : (c : ℕ) → inside c ≡ false → c < length plan.controls → value_given new c ≡ value_given old c

-- Once its clusters are judged, a control that follows nothing has the value that the pairs leave it.
pub judged_value : (verdicts : Verdicts) (plan : PlanData) (inside : ℕ → Bool) (first second : List Control) (grabs held : Grabs) (old new : Values) (frame next : SparseFrame)
    → IsPlan plan → IsClosed plan inside → length old ≡ length plan.controls → length new ≡ length plan.controls
    → AgreeOutside plan inside (under_values plan first grabs old) (under_values plan second held new) → IsRightOver verdicts plan first grabs old frame → IsRenewing plan inside frame next
    → ((c : ℕ) → inside c ≡ true → c < length plan.controls → can_move plan frame.asked c ≡ true → value_given next c ≡ Some (value_at (laid_first verdicts plan second held new frame.asked) c))
    → (c : ℕ) → c < length plan.controls → follower_of plan.followers c ≡ None → value_at (linked next new) c ≡ value_at (laid_first verdicts plan second held new frame.asked) c
judged_value verdicts plan inside first second grabs held old new frame next is closed long longer agree right renewing judged c lt still = by (inside c) refl
  where
    can : (b : Bool) → inside c ≡ true → can_move plan frame.asked c ≡ b → value_at (linked next new) c ≡ value_at (laid_first verdicts plan second held new frame.asked) c
    can true in_it moves = linked_at next new c (omega (arith, lt, longer)) ∙ ap (λ (o : Option CtrlValue). unwrap_or o (value_at new c)) (judged c in_it lt moves)
    can false in_it stays =
        linked_at next new c (omega (arith, lt, longer))
        ∙ ap (λ (o : Option CtrlValue). unwrap_or o (value_at new c))
        (none_of (value_given next c) (renewing.has.there c lt ∙ ap (λ (pairs : List Pair). can_move plan pairs c) renewing.asked ∙ stays))
        ∙ sym (value_untouched verdicts plan (ranges_under plan.followers second new) new held frame.asked c (omega (arith, lt, longer)) (unmoved_cluster plan frame.asked c stays))

    by : (b : Bool) → inside c ≡ b → value_at (linked next new) c ≡ value_at (laid_first verdicts plan second held new frame.asked) c
    by true in_it = can (can_move plan frame.asked c) in_it refl
    by false out =
        linked_at next new c (omega (arith, lt, longer))
        ∙ ap (λ (o : Option CtrlValue). unwrap_or o (value_at new c)) (renewing.outside c out lt)
        ∙ ap (unwrap_or (value_given frame c)) (sym (agree.values c out lt))
        ∙ sym (linked_at frame old c (omega (arith, lt, long)))
        ∙ ap (λ (v : Values). value_at v c) right.values_right
        ∙ value_then plan.followers (ranges_under plan.followers first old) (laid_first verdicts plan first grabs old frame.asked) c
        (omega (arith, lt, long, length_overlay verdicts plan (ranges_under plan.followers first old) old grabs frame.asked))
        ∙ value_stays plan.followers (ranges_under plan.followers first old) (laid_first verdicts plan first grabs old frame.asked) c still
        ∙ overlaid_agree verdicts plan inside (under_values plan first grabs old) (under_values plan second held new) frame.asked is closed agree long longer c out lt

-- So the range that the frame's values give a control is the one that the pairs leave it,
pub judged_range : (verdicts : Verdicts) (plan : PlanData) (controls : List Control) (grabs : Grabs) (values mid : Values) (pairs : List Pair) (c : ℕ) → IsPlan plan → AreControlsOf plan controls → c < length plan.controls
    → ((s : ℕ) → s < length plan.controls → follower_of plan.followers s ≡ None → value_at mid s ≡ value_at (laid_first verdicts plan controls grabs values pairs) s)
    → range_under plan.followers controls mid c ≡ range_under plan.followers (ranges_under plan.followers controls values) (laid_first verdicts plan controls grabs values pairs) c
judged_range verdicts plan controls grabs values mid pairs c is are lt same =
    agreed_range plan controls mid (laid_first verdicts plan controls grabs values pairs) c
    (λ f s found follows.
    let both = found_follows (IsFollowing plan.controls plan.followers) plan.followers c f is.follow.each found in
    same s (omega (arith, both.1.lower s follows, both.1.known)) (none_by (follower_of plan.followers s) (both.1.still s follows)))
    ∙ sym (range_anew plan controls values (laid_first verdicts plan controls grabs values pairs) c is are (omega (arith, lt, are.many)))

-- and its value settled by that is the followed one.
pub judged_followed : (verdicts : Verdicts) (plan : PlanData) (controls : List Control) (grabs : Grabs) (values mid : Values) (pairs : List Pair) (c : ℕ) → IsPlan plan → AreControlsOf plan controls → length values ≡ length plan.controls
    → c < length plan.controls
    → ((s : ℕ) → s < length plan.controls → follower_of plan.followers s ≡ None → value_at mid s ≡ value_at (laid_first verdicts plan controls grabs values pairs) s)
    → value_at (laid_over verdicts plan (under_values plan controls grabs values) pairs).values c
    ≡ (if is_some (follower_of plan.followers c) then settled_anew (range_under plan.followers controls mid c) (value_at (laid_first verdicts plan controls grabs values pairs) c) else value_at (laid_first verdicts plan controls grabs values pairs) c)
judged_followed verdicts plan controls grabs values mid pairs c is are long lt same =
    value_then plan.followers (ranges_under plan.followers controls values) (laid_first verdicts plan controls grabs values pairs) c
    (omega (arith, lt, long, length_overlay verdicts plan (ranges_under plan.followers controls values) values grabs pairs))
    ∙ ap (λ (r : Control). if is_some (follower_of plan.followers c) then settled_anew r (value_at (laid_first verdicts plan controls grabs values pairs) c) else value_at (laid_first verdicts plan controls grabs values pairs) c)
    (sym (judged_range verdicts plan controls grabs values mid pairs c is are lt same))

-- A frame that is renewed so is right.
pub renewed_right : (verdicts : Verdicts) (plan : PlanData) (inside : ℕ → Bool) (first second : List Control) (grabs held : Grabs) (old new : Values) (frame next : SparseFrame)
    → IsPlan plan → IsClosed plan inside → AreControlsOf plan first → AreControlsOf plan second → length old ≡ length plan.controls → length new ≡ length plan.controls
    → AgreeOutside plan inside (under_values plan first grabs old) (under_values plan second held new)
    → followed plan (under_values plan second held new) ≡ under_values plan second held new
    → IsRightOver verdicts plan first grabs old frame → IsRenewing plan inside frame next
    → ((c : ℕ) → inside c ≡ true → c < length plan.controls → can_move plan frame.asked c ≡ true
    → value_given next c ≡ Some (value_at (laid_over verdicts plan (under_values plan second held new) frame.asked).values c))
    → linked next new ≡ (laid_over verdicts plan (under_values plan second held new) next.asked).values
renewed_right verdicts plan inside first second grabs held old new frame next is closed are also long longer agree settled right renewing given =
    ext_get_or zero_value _ _ (length_linked next new ∙ sym (length_laid verdicts plan second held new frame.asked)) at
    ∙ ap (λ (pairs : List Pair). (laid_over verdicts plan (under_values plan second held new) pairs).values) (sym renewing.asked)
  where
    laid : Values
    laid = (laid_over verdicts plan (under_values plan second held new) frame.asked).values

    agreed : AgreeOutside plan inside (laid_over verdicts plan (under_values plan first grabs old) frame.asked) (laid_over verdicts plan (under_values plan second held new) frame.asked)
    agreed = laid_agree verdicts plan inside (under_values plan first grabs old) (under_values plan second held new) frame.asked is closed agree (controls_under plan first old are) (controls_under plan second new also) long longer

    can : (c : ℕ) → c < length plan.controls → inside c ≡ true → (b : Bool) → can_move plan frame.asked c ≡ b → value_at (linked next new) c ≡ value_at laid c
    can c lt in_it true moves = linked_at next new c (omega (arith, lt, longer)) ∙ ap (λ (o : Option CtrlValue). unwrap_or o (value_at new c)) (given c in_it lt moves)
    can c lt in_it false stays =
        linked_at next new c (omega (arith, lt, longer))
        ∙ ap (λ (o : Option CtrlValue). unwrap_or o (value_at new c))
        (none_of (value_given next c) (renewing.has.there c lt ∙ ap (λ (pairs : List Pair). can_move plan pairs c) renewing.asked ∙ stays))
        ∙ sym (out_of_reach verdicts plan (under_values plan second held new) frame.asked c is (controls_under plan second new also) longer settled lt (unmoved_cluster plan frame.asked c stays)
        (λ f s found follows. unmoved_source plan frame.asked c f s stays found follows)).value

    by : (c : ℕ) → c < length plan.controls → (b : Bool) → inside c ≡ b → value_at (linked next new) c ≡ value_at laid c
    by c lt true in_it = can c lt in_it (can_move plan frame.asked c) refl
    by c lt false out =
        linked_at next new c (omega (arith, lt, longer))
        ∙ ap (λ (o : Option CtrlValue). unwrap_or o (value_at new c)) (renewing.outside c out lt)
        ∙ ap (unwrap_or (value_given frame c)) (sym (agree.values c out lt))
        ∙ sym (linked_at frame old c (omega (arith, lt, long)))
        ∙ ap (λ (v : Values). value_at v c) right.values_right
        ∙ agreed.values c out lt

    at : (c : ℕ) → c < length (linked next new) → value_at (linked next new) c ≡ value_at laid c
    at c lt = by c (omega (arith, lt, length_linked next new, longer)) (inside c) refl

-- A frame that is queued behind others: all that its pairs can move is renewed in it, and it is right.
use Rattle.std.proofs.Common.{inr, inl, ◌||◌, ◌≢◌, ◌⊎◌, ◌∷◌, ◌≡◌, ◌∙◌, ◌<◌, ◌==◌, ℕ, nat_eq, Bool, true, false, not, if◌then◌else◌, List, [], length, Option, None, Some, Ok, Err, is_err, is_some, unwrap_or, refl, sym, ap, arith}
use Rattle.std.specs.List.{All, list_any, filter, position, range_with_len}
use Rattle.std.specs.Option.{option_map}
use Rattle.std.proofs.lemmas.Bool.{true≢false}
use Rattle.std.proofs.lemmas.Bool.Decides.{eqb_tells}
use Rattle.std.proofs.lemmas.List.{ext_get_or}
use Rattle.ctrl_types.specs.Values.{zero_value}
use Rattle.ctrl_types.specs.declared.errno.Errno.TheVariants.{EBUSY}
use Rattle.ctrl_types.specs.declared.ids.Pair.{Pair}
use Rattle.ctrl_types.specs.declared.value.CtrlValue.{CtrlValue}
use Rattle.ctrl_calls.specs.Meanings.{Verdicts}
use Rattle.ctrl_settle.specs.Control.{Control}
use Rattle.range_followers.specs.Wanted.{follower_of}
use Rattle.ctrl_handlers.specs.Plan.{PlanData, IsFinished, members, names_twice}
use Rattle.ctrl_clusters.specs.ControlsData.{is_in_one_of}
use Rattle.ctrl_clusters.specs.Following.{followed, inside_of, laid_over, ranges_under, under_values}
use Rattle.ctrl_clusters.specs.Judging.{validated_row}
use Rattle.ctrl_clusters.specs.Overlay.{is_touched, names_grabbed, refused_clusters, row_after}
use Rattle.ctrl_clusters.specs.Rows.{AreControlsOf, Grabs, Values, row_of, value_at}
use Rattle.ctrl_clusters.proofs.FollowingLemmas.{controls_under, length_laid, out_of_reach, value_untouched}
use Rattle.frame_forecast.specs.Kept.{IsPaired}
use Rattle.frame_forecast.specs.Sparse.{HasLinks, IsNaming, IsRightOver, SparseFrame, can_move, judged_all, linked, renewed_sparse, value_given}
use Rattle.ctrl_handlers.proofs.FinishLemmas.{is_some_any}
use Rattle.ctrl_clusters.proofs.RisingLemmas.{among_passing}
use Rattle.frame_forecast.proofs.FollowedValues.{all_followed, left_value}
use Rattle.frame_forecast.proofs.JudgedValues.{all_judged}
use Rattle.frame_forecast.proofs.RenewedFrames.{all_naming, all_paired, clusters_refused, judging_renews, own_cluster, refused_among, renewal_renews, rising_is}
use Rattle.frame_forecast.proofs.RenewedLemmas.{IsRenewing, judged_followed, laid_first}
use Rattle.frame_forecast.proofs.SparseLemmas.{length_linked, linked_at, none_of, unmoved_cluster, unmoved_source}

-- Some clusters hold what pairs can move.
pub record HoldsMoved (plan : PlanData) (ks : List ℕ) (pairs : List Pair) : Type 0 where
  pub moved : (c : ℕ) → c < length plan.controls → can_move plan pairs c ≡ true → inside_of plan ks c ≡ true
  pub touched : (k : ℕ) → k < length plan.clusters → list_any (nat_eq k) ks ≡ false → is_touched pairs (members plan k) ≡ false

pub pushed_is_right : (verdicts : Verdicts) (plan : PlanData) (ks : List ℕ) (controls : List Control) (grabs : Grabs) (values : Values) (frame : SparseFrame)
    → IsFinished plan → AreControlsOf plan controls → length values ≡ length plan.controls → followed plan (under_values plan controls grabs values) ≡ under_values plan controls grabs values
    → IsPaired frame → HasLinks plan frame → IsNaming plan frame → frame.refused ≡ [] → All (λ k. k < length plan.clusters) ks → names_twice ks ≡ false → HoldsMoved plan ks frame.asked
    → IsRightOver verdicts plan controls grabs values (renewed_sparse verdicts plan controls grabs values ks frame)
unfolding refused_clusters
pushed_is_right verdicts plan ks controls grabs values frame is are long settled paired has naming none known once holds = record {
  values_right = ext_get_or zero_value _ _ (length_linked next values ∙ sym (length_laid verdicts plan controls grabs values frame.asked)) at ∙ ap (λ (pairs : List Pair). (laid_over verdicts plan (under_values plan controls grabs values) pairs).values) (sym renews.asked);
  refused_right =
      clusters_refused plan controls mid ks judged
      ∙ rising_is (length plan.clusters) judged.refused (λ k. is_err (row_after verdicts plan (ranges_under plan.followers controls values) values grabs frame.asked k))
      (all_naming verdicts plan (ranges_under plan.followers controls values) grabs values ks frame long known naming).rising here
      ∙ ap (λ (pairs : List Pair). filter (λ k. is_err (row_after verdicts plan (ranges_under plan.followers controls values) values grabs pairs k)) (range_with_len 0 (length plan.clusters))) (sym renews.asked);
}
  where
    judged : SparseFrame
    judged = judged_all verdicts plan (ranges_under plan.followers controls values) grabs values ks frame

    mid : Values
    mid = linked judged values

    next : SparseFrame
    next = renewed_sparse verdicts plan controls grabs values ks frame

    laid : Values
    laid = (laid_over verdicts plan (under_values plan controls grabs values) frame.asked).values

    judging : IsRenewing plan (inside_of plan ks) frame judged
    judging = judging_renews verdicts plan (ranges_under plan.followers controls values) grabs values ks frame is long paired has

    renews : IsRenewing plan (inside_of plan ks) frame next
    renews = renewal_renews verdicts plan controls grabs values ks frame is long paired has once

    judged_pairs : IsPaired judged
    judged_pairs = all_paired verdicts plan (ranges_under plan.followers controls values) grabs values ks frame paired

    told : (o : Option CtrlValue) (v : CtrlValue) → is_some o ≡ true → option_map (λ w. v) o ≡ Some v
    told None v h = absurd (true≢false (sym h))
    told (Some w) v h = refl

    first : (c : ℕ) → c < length plan.controls → can_move plan frame.asked c ≡ true → value_given judged c ≡ Some (value_at (laid_first verdicts plan controls grabs values frame.asked) c)
    first c lt moves =
        own_cluster plan c _ is lt
        (λ k own.
        all_judged verdicts plan (ranges_under plan.followers controls values) grabs values frame ks k c is.is_plan long lt paired own
        ∙ ap (λ (b : Bool). if b then option_map (λ w. value_at (laid_first verdicts plan controls grabs values frame.asked) c) (value_given frame c) else value_given frame c) (ap (is_in_one_of ks) (sym own) ∙ holds.moved c lt moves)
        ∙ told (value_given frame c) (value_at (laid_first verdicts plan controls grabs values frame.asked) c) (has.there c lt ∙ moves))

    still : (s : ℕ) → s < length plan.controls → follower_of plan.followers s ≡ None → value_at mid s ≡ value_at (laid_first verdicts plan controls grabs values frame.asked) s
    still s lt none = linked_at judged values s (omega (arith, lt, long)) ∙ by (can_move plan frame.asked s) refl
      where
        by : (b : Bool) → can_move plan frame.asked s ≡ b → unwrap_or (value_given judged s) (value_at values s) ≡ value_at (laid_first verdicts plan controls grabs values frame.asked) s
        by true moves = ap (λ (o : Option CtrlValue). unwrap_or o (value_at values s)) (first s lt moves)
        by false stays =
            ap (λ (o : Option CtrlValue). unwrap_or o (value_at values s)) (none_of (value_given judged s) (judging.has.there s lt ∙ ap (λ (pairs : List Pair). can_move plan pairs s) judging.asked ∙ stays))
            ∙ sym (value_untouched verdicts plan (ranges_under plan.followers controls values) values grabs frame.asked s (omega (arith, lt, long)) (unmoved_cluster plan frame.asked s stays))

    by : (c : ℕ) → c < length plan.controls → (b : Bool) → can_move plan frame.asked c ≡ b → unwrap_or (value_given next c) (value_at values c) ≡ value_at laid c
    by c lt true moves =
        own_cluster plan c _ is lt
        (λ k own.
        ap (λ (o : Option CtrlValue). unwrap_or o (value_at values c))
        (all_followed plan controls mid ks k c judged is.is_plan judged_pairs once own
        ∙ ap (λ (b : Bool). if b then option_map (left_value plan controls mid c) (value_given judged c) else value_given judged c) (ap (is_in_one_of ks) (sym own) ∙ holds.moved c lt moves)
        ∙ ap (option_map (left_value plan controls mid c)) (first c lt moves))
        ∙ sym (judged_followed verdicts plan controls grabs values mid frame.asked c is.is_plan are long lt still))
    by c lt false stays =
        ap (λ (o : Option CtrlValue). unwrap_or o (value_at values c)) (none_of (value_given next c) (renews.has.there c lt ∙ ap (λ (pairs : List Pair). can_move plan pairs c) renews.asked ∙ stays))
        ∙ sym (out_of_reach verdicts plan (under_values plan controls grabs values) frame.asked c is.is_plan (controls_under plan controls values are) long settled lt (unmoved_cluster plan frame.asked c stays)
        (λ f s found follows. unmoved_source plan frame.asked c f s stays found follows)).value

    at : (c : ℕ) → c < length (linked next values) → value_at (linked next values) c ≡ value_at laid c
    at c lt =
        let within : c < length plan.controls = omega (arith, lt, length_linked next values, long) in
        linked_at next values c (omega (arith, lt, length_linked next values)) ∙ by c within (can_move plan frame.asked c) refl

    here : (j : ℕ) → j < length plan.clusters → list_any (nat_eq j) judged.refused ≡ is_err (row_after verdicts plan (ranges_under plan.followers controls values) values grabs frame.asked j)
    here j lt = refused_among verdicts plan (ranges_under plan.followers controls values) grabs values ks frame j long known naming lt ∙ last (list_any (nat_eq j) ks) refl
      where
        last : (b : Bool) → list_any (nat_eq j) ks ≡ b
            → (if b then is_err (row_after verdicts plan (ranges_under plan.followers controls values) values grabs frame.asked j) else list_any (nat_eq j) frame.refused)
            ≡ is_err (row_after verdicts plan (ranges_under plan.followers controls values) values grabs frame.asked j)
        last true in_it = refl
        last false out =
            ap (list_any (nat_eq j)) none
            ∙ sym (ap
            (λ (b : Bool).
            is_err
            (if not b then Ok (row_of values (members plan j)) else if names_grabbed grabs frame.asked (members plan j) then Err EBUSY
            else validated_row verdicts plan (ranges_under plan.followers controls values) values frame.asked j))
            (holds.touched j lt out))

-- A frame that gives a value to each control that its pairs can move, in rising order, has them.
pub moved_links : (plan : PlanData) (frame : SparseFrame) → frame.moved ≡ filter (can_move plan frame.asked) (range_with_len 0 (length plan.controls)) → HasLinks plan frame
moved_links plan frame is = record {
  there =
      λ c lt.
      some_map (position (λ k. k == c) frame.moved)
      ∙ is_some_any (λ k. k == c) frame.moved
      ∙ any_other c frame.moved
      ∙ ap (list_any (nat_eq c)) is
      ∙ among_passing (can_move plan frame.asked) (length plan.controls) c lt;
}
  where
    some_map : (o : Option ℕ) → is_some (option_map (value_at frame.given) o) ≡ is_some o
    some_map None = refl
    some_map (Some i) = refl

    any_other : (c : ℕ) (ks : List ℕ) → list_any (λ k. k == c) ks ≡ list_any (nat_eq c) ks
    any_other c [] = refl
    any_other c (k ∷ ks) = by (any_other c ks) (eqb_tells k c) (eqb_tells c k)
      where
        by : list_any (λ j. j == c) ks ≡ list_any (nat_eq c) ks → ((k == c) ≡ true × (k ≡ c)) ⊎ ((k == c) ≡ false × (k ≢ c)) → ((c == k) ≡ true × (c ≡ k)) ⊎ ((c == k) ≡ false × (c ≢ k)) → ((k == c) || list_any (λ j. j == c) ks) ≡ ((c == k) || list_any (nat_eq c) ks)
        by rest (inl one) (inl other) = ap (λ (b : Bool). b || list_any (λ j. j == c) ks) one.0 ∙ sym (ap (λ (b : Bool). b || list_any (nat_eq c) ks) other.0)
        by rest (inl one) (inr other) = absurd (other.1 (sym one.1))
        by rest (inr one) (inl other) = absurd (one.1 (sym other.1))
        by rest (inr one) (inr other) = ap (λ (b : Bool). b || list_any (λ j. j == c) ks) one.0 ∙ rest ∙ sym (ap (λ (b : Bool). b || list_any (nat_eq c) ks) other.0)

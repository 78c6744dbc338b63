-- What a frame gives once its values are settled by the ranges that follow.
use Rattle.std.proofs.Common.{◌≡◌, ◌≢◌, ◌∙◌, ◌==◌, ◌⊎◌, ◌||◌, ℕ, nat_eq, Bool, true, false, if◌then◌else◌, List, [], ◌∷◌, Option, None, Some, is_some, unwrap_or, inl, inr, refl, sym, ap, subst}
use Rattle.std.specs.List.{list_any}
use Rattle.std.specs.Option.{option_map}
use Rattle.std.proofs.lemmas.Bool.Decides.{eqb_tells}
use Rattle.ctrl_types.specs.Values.{zero_value}
use Rattle.ctrl_types.specs.declared.value.CtrlValue.{CtrlValue}
use Rattle.ctrl_settle.specs.Control.{Control}
use Rattle.ctrl_settle.specs.Settle.{settled_anew}
use Rattle.range_followers.specs.Wanted.{follower_of}
use Rattle.ctrl_handlers.specs.Plan.{PlanData, IsPlan, cluster_of, members, names_twice}
use Rattle.ctrl_handlers.proofs.ClusterLemmas.{cluster_of_member, or_false, or_false_right}
use Rattle.ctrl_clusters.specs.Following.{range_under}
use Rattle.ctrl_clusters.specs.Rows.{Values}
use Rattle.frame_forecast.specs.Sparse.{SparseFrame, followed_clusters, followed_given, followed_members, value_given, with_given}
use Rattle.frame_forecast.proofs.JudgedValues.{same_cluster}
use Rattle.frame_forecast.specs.Kept.{IsPaired}
use Rattle.frame_forecast.proofs.PlaceLemmas.{given_other, given_own, paired_next}

-- what a value becomes where its control follows
abbrev pub left_value : PlanData → List Control → Values → ℕ → CtrlValue → CtrlValue
left_value plan controls mid c v = if is_some (follower_of plan.followers c) then settled_anew (range_under plan.followers controls mid c) v else v

paired_given : (plan : PlanData) (controls : List Control) (mid : Values) (c : ℕ) (frame : SparseFrame) → IsPaired frame → IsPaired (followed_given plan controls mid c frame)
paired_given plan controls mid c frame is = by (is_some (follower_of plan.followers c))
  where
    by : (b : Bool) → IsPaired (if b then with_given frame c (settled_anew (range_under plan.followers controls mid c) (unwrap_or (value_given frame c) zero_value)) else frame)
    by true = paired_next frame c (settled_anew (range_under plan.followers controls mid c) (unwrap_or (value_given frame c) zero_value)) is
    by false = is

paired_members : (plan : PlanData) (controls : List Control) (mid : Values) (cs : List ℕ) (frame : SparseFrame) → IsPaired frame → IsPaired (followed_members plan controls mid cs frame)
paired_members plan controls mid [] frame is = is
paired_members plan controls mid (c ∷ cs) frame is = paired_members plan controls mid cs (followed_given plan controls mid c frame) (paired_given plan controls mid c frame is)

-- the control itself
left_own : (plan : PlanData) (controls : List Control) (mid : Values) (c : ℕ) (frame : SparseFrame) → IsPaired frame → value_given (followed_given plan controls mid c frame) c ≡ option_map (left_value plan controls mid c) (value_given frame c)
left_own plan controls mid c frame is = by (is_some (follower_of plan.followers c))
  where
    range : Control
    range = range_under plan.followers controls mid c

    same : (o : Option CtrlValue) → o ≡ option_map (λ v. v) o
    same None = refl
    same (Some v) = refl

    settled : (o : Option CtrlValue) → option_map (λ w. settled_anew range (unwrap_or o zero_value)) o ≡ option_map (settled_anew range) o
    settled None = refl
    settled (Some v) = refl

    by : (b : Bool) → value_given (if b then with_given frame c (settled_anew range (unwrap_or (value_given frame c) zero_value)) else frame) c ≡ option_map (λ v. if b then settled_anew range v else v) (value_given frame c)
    by true = given_own frame c (settled_anew range (unwrap_or (value_given frame c) zero_value)) is ∙ settled (value_given frame c)
    by false = same (value_given frame c)

-- and another one
left_other : (plan : PlanData) (controls : List Control) (mid : Values) (c d : ℕ) (frame : SparseFrame) → d ≢ c → value_given (followed_given plan controls mid c frame) d ≡ value_given frame d
left_other plan controls mid c d frame apart = by (is_some (follower_of plan.followers c))
  where
    by : (b : Bool) → value_given (if b then with_given frame c (settled_anew (range_under plan.followers controls mid c) (unwrap_or (value_given frame c) zero_value)) else frame) d ≡ value_given frame d
    by true = given_other frame c d (settled_anew (range_under plan.followers controls mid c) (unwrap_or (value_given frame c) zero_value)) apart
    by false = refl

-- of some controls
left_members : (plan : PlanData) (controls : List Control) (mid : Values) (cs : List ℕ) (d : ℕ) (frame : SparseFrame) → IsPaired frame → names_twice cs ≡ false
    → value_given (followed_members plan controls mid cs frame) d ≡ (if list_any (nat_eq d) cs then option_map (left_value plan controls mid d) (value_given frame d) else value_given frame d)
left_members plan controls mid [] d frame is once = refl
left_members plan controls mid (c ∷ cs) d frame is once =
    left_members plan controls mid cs d (followed_given plan controls mid c frame) (paired_given plan controls mid c frame is) (or_false_right (list_any (nat_eq c) cs) (names_twice cs) once)
    ∙ by (eqb_tells d c)
  where
    next : SparseFrame
    next = followed_given plan controls mid c frame

    by : ((d == c) ≡ true × (d ≡ c)) ⊎ ((d == c) ≡ false × (d ≢ c))
        → (if list_any (nat_eq d) cs then option_map (left_value plan controls mid d) (value_given next d) else value_given next d)
        ≡ (if (d == c) || list_any (nat_eq d) cs then option_map (left_value plan controls mid d) (value_given frame d) else value_given frame d)
    by (inl same) =
        ap (λ (b : Bool). if b then option_map (left_value plan controls mid d) (value_given next d) else value_given next d)
        (ap (λ (x : ℕ). list_any (nat_eq x) cs) same.1 ∙ or_false (list_any (nat_eq c) cs) (names_twice cs) once)
        ∙ subst (λ (x : ℕ). value_given next x ≡ option_map (left_value plan controls mid x) (value_given frame x)) (sym same.1) (left_own plan controls mid c frame is)
        ∙ ap (λ (b : Bool). if b || list_any (nat_eq d) cs then option_map (left_value plan controls mid d) (value_given frame d) else value_given frame d) (sym same.0)
    by (inr other) =
        ap (λ (o : Option CtrlValue). if list_any (nat_eq d) cs then option_map (left_value plan controls mid d) o else o) (left_other plan controls mid c d frame other.1)
        ∙ ap (λ (b : Bool). if b || list_any (nat_eq d) cs then option_map (left_value plan controls mid d) (value_given frame d) else value_given frame d) (sym other.0)

-- Once some clusters have followed, the values of their members are settled so, and no other one is.
pub all_followed : (plan : PlanData) (controls : List Control) (mid : Values) (ks : List ℕ) (k d : ℕ) (frame : SparseFrame) → IsPlan plan → IsPaired frame → names_twice ks ≡ false → cluster_of plan d ≡ Some k
    → value_given (followed_clusters plan controls mid ks frame) d ≡ (if list_any (nat_eq k) ks then option_map (left_value plan controls mid d) (value_given frame d) else value_given frame d)
all_followed plan controls mid [] k d frame is paired once in_it = refl
all_followed plan controls mid (j ∷ js) k d frame is paired once in_it =
    all_followed plan controls mid js k d next is (paired_members plan controls mid (members plan j) frame paired) (or_false_right (list_any (nat_eq j) js) (names_twice js) once) in_it
    ∙ by (eqb_tells k j)
  where
    next : SparseFrame
    next = followed_members plan controls mid (members plan j) frame

    one : (b : Bool) → list_any (nat_eq d) (members plan j) ≡ b → value_given next d ≡ (if b then option_map (left_value plan controls mid d) (value_given frame d) else value_given frame d)
    one b here = left_members plan controls mid (members plan j) d frame paired (is.members_differ j) ∙ ap (λ (x : Bool). if x then option_map (left_value plan controls mid d) (value_given frame d) else value_given frame d) here

    elsewhere : k ≢ j → list_any (nat_eq d) (members plan j) ≡ false
    elsewhere apart = no (list_any (nat_eq d) (members plan j)) refl
      where
        no : (b : Bool) → list_any (nat_eq d) (members plan j) ≡ b → b ≡ false
        no false h = refl
        no true h = absurd (apart (same_cluster plan d k j is in_it h))

    by : ((k == j) ≡ true × (k ≡ j)) ⊎ ((k == j) ≡ false × (k ≢ j))
        → (if list_any (nat_eq k) js then option_map (left_value plan controls mid d) (value_given next d) else value_given next d)
        ≡ (if (k == j) || list_any (nat_eq k) js then option_map (left_value plan controls mid d) (value_given frame d) else value_given frame d)
    by (inl same) =
        ap (λ (b : Bool). if b then option_map (left_value plan controls mid d) (value_given next d) else value_given next d)
        (ap (λ (x : ℕ). list_any (nat_eq x) js) same.1 ∙ or_false (list_any (nat_eq j) js) (names_twice js) once)
        ∙ one true (ap (λ (x : ℕ). list_any (nat_eq d) (members plan x)) (sym same.1) ∙ cluster_of_member plan d k in_it)
        ∙ ap (λ (b : Bool). if b || list_any (nat_eq k) js then option_map (left_value plan controls mid d) (value_given frame d) else value_given frame d) (sym same.0)
    by (inr other) =
        ap (λ (o : Option CtrlValue). if list_any (nat_eq k) js then option_map (left_value plan controls mid d) o else o) (one false (elsewhere other.1))
        ∙ ap (λ (b : Bool). if b || list_any (nat_eq k) js then option_map (left_value plan controls mid d) (value_given frame d) else value_given frame d) (sym other.0)

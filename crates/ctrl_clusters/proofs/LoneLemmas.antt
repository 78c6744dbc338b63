-- Rows that members take fit: an array is alone in its cluster.
use Rattle.std.proofs.Common.{◌≡◌, ◌≢◌, ◌∙◌, ◌⊎◌, inl, inr, ℕ, zero, suc, ◌<◌, ◌≤◌, ◌+◌, ◌==◌, ◌&&◌, ◌||◌, ℤ, Bool, true, false, nat_le, nat_lt, List, [], ◌∷◌, ◌++◌, length, map, take, get_or, set, Option, None, Some, is_some, Result, Ok, Err, refl, sym, ap, subst, arith}
use Rattle.std.specs.List.{All, list_all, list_any}
use Rattle.std.proofs.lemmas.Bool.{le-leb}
use Rattle.std.proofs.lemmas.Bool.Decides.{leb_tells, eqb_tells}
use Rattle.std.proofs.lemmas.List.{take_more, take_more_set}
use Rattle.std.proofs.lemmas.List.Elements.{All-cons, All-get_or, All-head, All-nil, All-tail}
use Rattle.ctrl_types.proofs.ValueLemmas.{Decides-same, same_self}
use Rattle.ctrl_types.specs.Checks.{with_errno}
use Rattle.ctrl_types.specs.declared.check.Check.{Check}
use Rattle.ctrl_types.specs.declared.errno.Errno.{Errno}
use Rattle.ctrl_types.specs.declared.kind.Kind.{Kind}
use Rattle.ctrl_types.specs.declared.kind.Kind.TheVariants.{Integer, Boolean, Menu, Button, Integer64, Bitmask, IntegerMenu, U8}
use Rattle.ctrl_types.specs.declared.value.CtrlValue.{CtrlValue}
use Rattle.ctrl_types.specs.declared.value.CtrlValue.TheVariants.{Number, Bytes}
use Rattle.ctrl_calls.specs.Fitting.{fits, is_number}
use Rattle.ctrl_settle.proofs.Settling.{settle-settled}
use Rattle.ctrl_settle.specs.Control.{Control, is_array}
use Rattle.ctrl_settle.specs.Faults.{IsWellFormed, HasElems}
use Rattle.ctrl_settle.specs.Settle.{as_number, settle, settle_as, settle_value}
use Rattle.ctrl_handlers.specs.Plan.{PlanData, IsPlan, cluster_at, control, control_in, members, no_control}
use Rattle.ctrl_handlers.proofs.ClusterLemmas.{or_false, or_false_right}
use Rattle.ctrl_clusters.specs.Judging.{is_value, takes_row}
use Rattle.ctrl_clusters.specs.Lone.{AreLone}
use Rattle.ctrl_clusters.specs.Rows.{AreControlsOf}
use Rattle.ctrl_clusters.proofs.RowLemmas.{takes_length}

and_first : (a b : Bool) → (a && b) ≡ true → a ≡ true
and_first true b h = refl
and_first false b h = cc

and_second : (a b : Bool) → (a && b) ≡ true → b ≡ true
and_second true b h = h
and_second false b h = cc

-- what is taken for a number is a number
taken_number : (r : Result ℤ Check) (w : CtrlValue) → with_errno (as_number r) ≡ Ok w → is_number w ≡ true
taken_number (Ok x) w h = ap is_number (sym (same (Number x) w h))
  where
    ok : CtrlValue → Result CtrlValue Errno
    ok v = Ok v

    same : (a b : CtrlValue) → ok a ≡ Ok b → a ≡ b
    same a b e = cc
taken_number (Err check) w h = cc

-- what is no array takes numbers alone
settled_as_number : (k : Kind) (c : Control) (v w : CtrlValue) → k ≢ U8 → with_errno (settle_value k c v) ≡ Ok w → is_number w ≡ true
settled_as_number U8 c v w other h = absurd (other refl)
settled_as_number Integer c (Number n) w other h = taken_number (settle_as Integer c n) w h
settled_as_number Integer c (Bytes row) w other h = cc
settled_as_number Integer64 c (Number n) w other h = taken_number (settle_as Integer64 c n) w h
settled_as_number Integer64 c (Bytes row) w other h = cc
settled_as_number Boolean c (Number n) w other h = taken_number (settle_as Boolean c n) w h
settled_as_number Boolean c (Bytes row) w other h = cc
settled_as_number Menu c (Number n) w other h = taken_number (settle_as Menu c n) w h
settled_as_number Menu c (Bytes row) w other h = cc
settled_as_number Button c (Number n) w other h = taken_number (settle_as Button c n) w h
settled_as_number Button c (Bytes row) w other h = cc
settled_as_number Bitmask c (Number n) w other h = taken_number (settle_as Bitmask c n) w h
settled_as_number Bitmask c (Bytes row) w other h = cc
settled_as_number IntegerMenu c (Number n) w other h = taken_number (settle_as IntegerMenu c n) w h
settled_as_number IntegerMenu c (Bytes row) w other h = cc

pub settled_number : (c : Control) (v w : CtrlValue) → c.kind ≢ U8 → settle c v ≡ Ok w → is_number w ≡ true
unfolding settle
settled_number c v w other h = settled_as_number c.kind c v w other h

-- so each of several members takes a number
pub lone_number : (controls : List Control) (members : List ℕ) (i : ℕ) (v w : CtrlValue) → AreLone controls members → i < length members → settle (control_in controls (get_or members i 0)) v ≡ Ok w → 1 < length members → is_number w ≡ true
lone_number controls members i v w lone within settles many =
    settled_number (control_in controls (get_or members i 0)) v w (All-get_or (λ c. (control_in controls c).kind ≢ U8) members i 0 within (lone many)) settles

-- the members of a cluster
pub lone_members : (plan : PlanData) (controls : List Control) (k : ℕ) → IsPlan plan → AreControlsOf plan controls → AreLone controls (members plan k)
lone_members plan controls k is are many = each (members plan k) (none (is_some (cluster_at plan k).manual) (nat_lt 1 (length (members plan k))) _ (le-leb 2 (length (members plan k)) (omega (arith, many))) (is.lone_arrays k)) (is.members_known k)
  where
    none : (a b some : Bool) → b ≡ true → ((a || b) && some) ≡ false → some ≡ false
    none true b some h e = e
    none false true some h e = e
    none false false some h e = cc

    same_kind : (xs ys : List Control) (c : ℕ) → map (λ x. x.kind) xs ≡ map (λ x. x.kind) ys → (get_or xs c no_control).kind ≡ (get_or ys c no_control).kind
    same_kind [] [] c e = refl
    same_kind [] (y ∷ ys) c e = absurd (cc)
    same_kind (x ∷ xs) [] c e = absurd (cc)
    same_kind (x ∷ xs) (y ∷ ys) zero e = cc
    same_kind (x ∷ xs) (y ∷ ys) (suc c) e = same_kind xs ys c (cc)

    no_elems : (k : Kind) (elems : Option ℕ) → is_some elems ≡ false → HasElems k elems → k ≢ U8
    no_elems k (Some n) h fits e = absurd (cc)
    no_elems k None h fits e = subst (λ (x : Kind). HasElems x None) e fits

    one : (c : ℕ) → c < length plan.controls → is_array (control plan c) ≡ false → (control_in controls c).kind ≢ U8
    one c within array e =
        no_elems (control plan c).kind (control plan c).elems array (All-get_or IsWellFormed plan.controls c no_control within is.well_formed).fits_kind.elems
        (sym (same_kind controls plan.controls c are.kinds) ∙ e)

    each : (cs : List ℕ) → list_any (λ c. is_array (control plan c)) cs ≡ false → All (λ c. c < length plan.controls) cs → All (λ c. (control_in controls c).kind ≢ U8) cs
    each [] free known = All-nil (λ c. (control_in controls c).kind ≢ U8)
    each (c ∷ cs) free known =
        All-cons (λ c. (control_in controls c).kind ≢ U8) c cs
        (one c (All-head (λ c. c < length plan.controls) c cs known) (or_false (is_array (control plan c)) (list_any (λ c. is_array (control plan c)) cs) free))
        (each cs (or_false_right (is_array (control plan c)) (list_any (λ c. is_array (control plan c)) cs) free) (All-tail (λ c. c < length plan.controls) c cs known))

-- what members take has one more value
takes_more : (controls : List Control) (ms : List ℕ) (vs : List CtrlValue) (c : ℕ) (v : CtrlValue) → takes_row controls ms vs ≡ true → is_value (settle (control_in controls c) v) v ≡ true → takes_row controls (ms ++ c ∷ []) (vs ++ v ∷ []) ≡ true
takes_more controls [] [] c v taken takes = rw takes refl
takes_more controls [] (x ∷ vs) c v taken takes = cc
takes_more controls (m ∷ ms) [] c v taken takes = cc
takes_more controls (m ∷ ms) (x ∷ vs) c v taken takes =
    rw (and_first (is_value (settle (control_in controls m) x) x) (takes_row controls ms vs) taken) (takes_more controls ms vs c v (and_second (is_value (settle (control_in controls m) x) x) (takes_row controls ms vs) taken) takes)

-- what a control took it takes again
pub taken_again : (c : Control) (v w : CtrlValue) → IsWellFormed c → settle c v ≡ Ok w → is_value (settle c w) w ≡ true
taken_again c v w well settles = rw (settle-settled c v w well settles) (same_self w)

-- the members so far take what they settled to, and so does the next
pub taken_step : (controls : List Control) (members : List ℕ) (row : List CtrlValue) (i : ℕ) (v w : CtrlValue) → i < length members → i < length row → IsWellFormed (control_in controls (get_or members i 0))
    → settle (control_in controls (get_or members i 0)) v ≡ Ok w → takes_row controls (take i members) (take i row) ≡ true → takes_row controls (take (i + 1) members) (take (i + 1) (set row i w)) ≡ true
taken_step controls members row i v w within there well settles taken =
    rw (take_more members i 0 within, take_more_set row i w there)
    (takes_more controls (take i members) (take i row) (get_or members i 0) w taken (taken_again (control_in controls (get_or members i 0)) v w well settles))

-- what members take fits into a row
pub taken_fits : (controls : List Control) (members : List ℕ) (row : List CtrlValue) → length members ≤ 8 → AreLone controls members → takes_row controls members row ≡ true → fits row ≡ true
taken_fits controls members row few lone taken = by (eqb_tells (length row) (length members))
  where
    differ : false ≡ true → ⊥
    differ e = cc

    own : (m : ℕ) (v : CtrlValue) (r : Result CtrlValue Errno) → settle (control_in controls m) v ≡ r → (control_in controls m).kind ≢ U8 → is_value r v ≡ true → is_number v ≡ true
    own m v (Ok w) settles other same = subst (λ (x : CtrlValue). is_number x ≡ true) ((Decides-same w v).0 same) (settled_number (control_in controls m) v w other settles)
    own m v (Err errno) settles other same = cc

    numbers : (ms : List ℕ) (vs : List CtrlValue) → All (λ c. (control_in controls c).kind ≢ U8) ms → takes_row controls ms vs ≡ true → list_all is_number vs ≡ true
    numbers [] [] all takes = refl
    numbers [] (v ∷ vs) all takes = cc
    numbers (m ∷ ms) [] all takes = refl
    numbers (m ∷ ms) (v ∷ vs) all takes =
        let first : is_number v ≡ true =
        own m v (settle (control_in controls m) v) refl (All-head (λ c. (control_in controls c).kind ≢ U8) m ms all) (and_first (is_value (settle (control_in controls m) v) v) (takes_row controls ms vs) takes) in
        rw first (numbers ms vs (All-tail (λ c. (control_in controls c).kind ≢ U8) m ms all) (and_second (is_value (settle (control_in controls m) v) v) (takes_row controls ms vs) takes))

    by : ((length row == length members) ≡ true × (length row ≡ length members)) ⊎ ((length row == length members) ≡ false × (length row ≢ length members)) → fits row ≡ true
    by (inr h) = absurd (differ (sym (takes_length controls members row h.1) ∙ taken))
    by (inl h) = rw (le-leb (length row) 8 (omega (arith, few, h.1))) (at (leb_tells (length row) 1))
      where
        at : ((nat_le (length row) 1 ≡ true) × (length row ≤ 1)) ⊎ ((nat_le (length row) 1 ≡ false) × (1 < length row)) → (nat_le (length row) 1 || list_all is_number row) ≡ true
        at (inl l) = rw l.0 refl
        at (inr l) = rw l.0 (numbers members row (lone (omega (arith, l.1, h.1))) taken)

-- Rows that some clusters get, and the values once they are written.
use Rattle.std.proofs.Common.{◌≡◌, ◌≢◌, ℕ, zero, suc, eq-eqb, ◌<◌, ◌+◌, ◌==◌, Bool, true, false, cond, if◌then◌else◌, nat_eq, List, [], ◌∷◌, ◌++◌, length, take, drop, get_or, slice_set, Option, None, Some, is_some, unwrap_or, inl, inr, ◌⊎◌, subst, refl, ap, sym, ◌∙◌, arith}
use Rattle.std.specs.List.{All, list_any}
use Rattle.std.specs.Option.{option_or}
use Rattle.std.proofs.lemmas.Bool.Decides.{eqb_tells}
use Rattle.std.proofs.lemmas.List.{length-set, get_or-set_same, get_or-set_other, drop_more, take_more}
use Rattle.std.proofs.lemmas.List.Elements.{All-head, All-tail, All-weaker, All-get_or}
use Rattle.std.proofs.lemmas.List.FromFn.{length-map-range_with_len, get_or-map-range_with_len}
use Rattle.ctrl_types.specs.Values.{zero_value}
use Rattle.ctrl_types.specs.declared.value.CtrlValue.{CtrlValue}
use Rattle.ctrl_handlers.specs.Plan.{PlanData, IsPlan, cluster_of, members, names_twice}
use Rattle.ctrl_handlers.proofs.ClusterLemmas.{or_false, or_false_right}
use Rattle.ctrl_clusters.specs.Rows.{Values, value_at, member_value}
use Rattle.ctrl_clusters.specs.NewRows.{clusters_of, row_among, value_among, AreNewRows, one_row, value_written, written, with_row}
use Rattle.ctrl_clusters.specs.declared.new_row.NewRow.{NewRow}

-- values that are equal one by one are equal
pub same_values : (xs ys : Values) → length xs ≡ length ys → ((i : ℕ) → i < length xs → value_at xs i ≡ value_at ys i) → xs ≡ ys
same_values [] [] long each = refl
same_values [] (y ∷ ys) long each = absurd (omega (arith, long))
same_values (x ∷ xs) [] long each = absurd (omega (arith, long))
same_values (x ∷ xs) (y ∷ ys) long each =
    let first : x ≡ y = each 0 (omega arith) in
    let rest : xs ≡ ys = same_values xs ys (omega (arith, long)) (λ i lt. each (suc i) (omega (arith, lt))) in
    rw (first, rest) refl

pub differs : (d c : ℕ) → nat_eq d c ≡ false → d ≢ c
differs d c fails = λ e. absurd_bool (eq-eqb d c e) fails
  where
    absurd_bool : nat_eq d c ≡ true → nat_eq d c ≡ false → ⊥
    absurd_bool t f = cc

pub not_equal : (d c : ℕ) → d ≢ c → nat_eq d c ≡ false
not_equal d c other = by (eqb_tells d c)
  where
    by : ((d == c) ≡ true × (d ≡ c)) ⊎ ((d == c) ≡ false × (d ≢ c)) → nat_eq d c ≡ false
    by (inl h) = absurd (other h.1)
    by (inr h) = h.0

-- a row gives nothing to a control that isn't among the members
pub value_in_none : (cs : List ℕ) (row : List CtrlValue) (d : ℕ) → list_any (nat_eq d) cs ≡ false → member_value cs row d ≡ None
value_in_none [] row d apart = refl
value_in_none (c ∷ cs) [] d apart = refl
value_in_none (c ∷ cs) (v ∷ vs) d apart =
    let other : nat_eq c d ≡ false = not_equal c d (λ e. differs d c (or_false (nat_eq d c) (list_any (nat_eq d) cs) apart) (sym e)) in
    rw other (value_in_none cs vs d (or_false_right (nat_eq d c) (list_any (nat_eq d) cs) apart))

-- the value of a control once its members have those of a row
pub with_row_at : (values : Values) (cs : List ℕ) (row : List CtrlValue) (d : ℕ) → names_twice cs ≡ false → All (λ c. c < length values) cs → length row ≡ length cs
    → value_at (with_row values cs row) d ≡ unwrap_or (member_value cs row d) (value_at values d)
with_row_at values [] row d differ known long = refl
with_row_at values (c ∷ cs) [] d differ known long = absurd (omega (arith, long))
with_row_at values (c ∷ cs) (v ∷ vs) d differ known long =
    with_row_at (slice_set values c v) cs vs d (or_false_right (list_any (nat_eq c) cs) (names_twice cs) differ) there (omega (arith, long)) ∙ by (eqb_tells c d)
  where
    there : All (λ d. d < length (slice_set values c v)) cs
    there = All-weaker (λ d. d < length values) (λ d. d < length (slice_set values c v)) (λ d lt. omega (arith, lt, length-set values c v)) cs (All-tail (λ d. d < length values) c cs known)

    by : ((c == d) ≡ true × (c ≡ d)) ⊎ ((c == d) ≡ false × (c ≢ d))
        → unwrap_or (member_value cs vs d) (value_at (slice_set values c v) d) ≡ unwrap_or (member_value (c ∷ cs) (v ∷ vs) d) (value_at values d)
    by (inl h) =
        let own : list_any (nat_eq d) cs ≡ false = subst (λ (x : ℕ). list_any (nat_eq x) cs ≡ false) h.1 (or_false (list_any (nat_eq c) cs) (names_twice cs) differ) in
        let has : value_at (slice_set values c v) d ≡ v = subst (λ (x : ℕ). value_at (slice_set values c v) x ≡ v) h.1 (get_or-set_same values c v zero_value (All-head (λ d. d < length values) c cs known)) in
        rw (h.0, value_in_none cs vs d own, has) refl
    by (inr h) =
        let stays : value_at (slice_set values c v) d ≡ value_at values d = get_or-set_other values c d v zero_value (λ e. h.1 (sym e)) in
        rw (h.0, stays) refl

pub length_with_row : (values : Values) (cs : List ℕ) (row : List CtrlValue) → length (with_row values cs row) ≡ length values
length_with_row values [] row = refl
length_with_row values (c ∷ cs) [] = refl
length_with_row values (c ∷ cs) (v ∷ vs) = length_with_row (slice_set values c v) cs vs ∙ length-set values c v

-- the next member gets its value, and then the others
pub write_next : (values : Values) (members : List ℕ) (row : List CtrlValue) (i : ℕ) → i < length members → i < length row
    → with_row values (drop i members) (drop i row) ≡ with_row (slice_set values (get_or members i 0) (value_at row i)) (drop (i + 1) members) (drop (i + 1) row)
write_next values members row i within there = rw (drop_more members i 0 within, drop_more row i zero_value there) refl

-- what holds of each row holds of the one that a cluster gets
pub row_met : (P : ℕ → List CtrlValue → Type 0) (rows : List NewRow) (k : ℕ) (row : List CtrlValue) → All (λ r. P r.cluster r.row) rows → row_among rows k ≡ Some row → P k row
row_met P [] k row all found = absurd (none found)
  where
    none : None ≡ Some row → ⊥
    none e = cc
row_met P (r ∷ rows) k row all found = by (λ left. row_met P rows k row (All-tail (λ (t : NewRow). P t.cluster t.row) r rows all) left) (eqb_tells r.cluster k)
  where
    same_row : (a b : List CtrlValue) → Some a ≡ Some b → a ≡ b
    same_row a b e = cc

    by : (row_among rows k ≡ Some row → P k row) → ((r.cluster == k) ≡ true × (r.cluster ≡ k)) ⊎ ((r.cluster == k) ≡ false × (r.cluster ≢ k)) → P k row
    by later (inl h) =
        let here : Some r.row ≡ Some row = rw h.0 at found in
        let own : P k r.row = subst (λ (j : ℕ). P j r.row) h.1 (All-head (λ (t : NewRow). P t.cluster t.row) r rows all) in
        subst (λ (x : List CtrlValue). P k x) (same_row r.row row here) own
    by later (inr h) = later (rw h.0 at found)

-- a cluster is among those that get rows where it gets one
pub has_row : (rows : List NewRow) (k : ℕ) → list_any (nat_eq k) (clusters_of rows) ≡ is_some (row_among rows k)
has_row [] k = refl
has_row (r ∷ rows) k = by (has_row rows k) (eqb_tells r.cluster k)
  where
    by : list_any (nat_eq k) (clusters_of rows) ≡ is_some (row_among rows k) → ((r.cluster == k) ≡ true × (r.cluster ≡ k)) ⊎ ((r.cluster == k) ≡ false × (r.cluster ≢ k))
        → list_any (nat_eq k) (clusters_of (r ∷ rows)) ≡ is_some (row_among (r ∷ rows) k)
    by same (inl h) = rw (h.0, eq-eqb k r.cluster (sym h.1)) refl
    by same (inr h) = rw (h.0, not_equal k r.cluster (λ e. h.1 (sym e))) same

-- the row that a cluster gets has a value for each member
pub given_long : (plan : PlanData) (rows : List NewRow) (k : ℕ) (row : List CtrlValue) → All (λ r. length r.row ≡ length (members plan r.cluster)) rows → row_among rows k ≡ Some row
    → length row ≡ length (members plan k)
given_long plan rows k row long found = row_met (λ (j : ℕ) (x : List CtrlValue). length x ≡ length (members plan j)) rows k row long found

-- one more row
pub row_among_push : (rows : List NewRow) (r : NewRow) (k : ℕ) → row_among (rows ++ r ∷ []) k ≡ option_or (row_among rows k) (cond (r.cluster == k) (Some r.row) None)
row_among_push [] r k = refl
row_among_push (x ∷ rows) r k = by (x.cluster == k) (row_among_push rows r k)
  where
    by : (b : Bool) → row_among (rows ++ r ∷ []) k ≡ option_or (row_among rows k) (cond (r.cluster == k) (Some r.row) None)
        → cond b (Some x.row) (row_among (rows ++ r ∷ []) k) ≡ option_or (cond b (Some x.row) (row_among rows k)) (cond (r.cluster == k) (Some r.row) None)
    by true h = refl
    by false h = h

-- a control isn't among the members of another cluster than its own
pub member_apart : (plan : PlanData) (c j : ℕ) (o : Option ℕ) → IsPlan plan → j < length plan.clusters → cluster_of plan c ≡ o → o ≢ Some j → list_any (nat_eq c) (members plan j) ≡ false
member_apart plan c j o is within found other = by (list_any (nat_eq c) (members plan j)) refl
  where
    by : (b : Bool) → list_any (nat_eq c) (members plan j) ≡ b → b ≡ false
    by false e = refl
    by true e = absurd (other (sym found ∙ is.members_apart j c within e))

pub written_at : (plan : PlanData) (values : Values) (rows : List NewRow) (c : ℕ) → c < length values → value_at (written plan values rows) c ≡ value_written plan values rows c
unfolding written
written_at plan values rows c lt = get_or-map-range_with_len (value_written plan values rows) 0 (length values) c c zero_value lt (omega arith)

pub length_written : (plan : PlanData) (values : Values) (rows : List NewRow) → length (written plan values rows) ≡ length values
unfolding written
length_written plan values rows = length-map-range_with_len (value_written plan values rows) 0 (length values)

-- no row writes nothing
pub written_none : (plan : PlanData) (values : Values) → written plan values [] ≡ values
written_none plan values = same_values (written plan values []) values (length_written plan values []) (λ i lt. written_at plan values [] i (omega (arith, lt, length_written plan values [])) ∙ none i (cluster_of plan i))
  where
    none : (i : ℕ) (o : Option ℕ) → unwrap_or (value_among plan [] o i) (value_at values i) ≡ value_at values i
    none i None = refl
    none i (Some k) = refl

-- one more row of another cluster is written
written_push : (plan : PlanData) (values : Values) (rows : List NewRow) (r : NewRow) → IsPlan plan → length values ≡ length plan.controls → r.cluster < length plan.clusters
    → length r.row ≡ length (members plan r.cluster) → row_among rows r.cluster ≡ None
    → with_row (written plan values rows) (members plan r.cluster) r.row ≡ written plan values (rows ++ r ∷ [])
written_push plan values rows r is many within long new =
    same_values (with_row before (members plan r.cluster) r.row) (written plan values (rows ++ r ∷ [])) (length_with_row before (members plan r.cluster) r.row ∙ length_written plan values rows ∙ sym (length_written plan values (rows ++ r ∷ [])))
    (λ i lt. let less : i < length values = omega (arith, lt, length_with_row before (members plan r.cluster) r.row, length_written plan values rows) in
    with_row_at before (members plan r.cluster) r.row i (is.members_differ r.cluster) known long
    ∙ ap (unwrap_or (member_value (members plan r.cluster) r.row i)) (written_at plan values rows i less)
    ∙ by i (cluster_of plan i) refl
    ∙ sym (written_at plan values (rows ++ r ∷ []) i less))
  where
    before : Values
    before = written plan values rows

    many_before : length before ≡ length plan.controls
    many_before = length_written plan values rows ∙ many

    known : All (λ c. c < length before) (members plan r.cluster)
    known = subst (λ (n : ℕ). All (λ c. c < n) (members plan r.cluster)) (sym many_before) (is.members_known r.cluster)

    nested : (a : Option CtrlValue) (v : CtrlValue) → unwrap_or a (unwrap_or None v) ≡ unwrap_or a v
    nested None v = refl
    nested (Some x) v = refl

    none_some : (k : ℕ) → None ≢ Some k
    none_some k e = cc

    some_same : (j k : ℕ) → Some j ≡ Some k → j ≡ k
    some_same j k e = cc

    or_none : (a : Option (List CtrlValue)) → option_or a None ≡ a
    or_none None = refl
    or_none (Some x) = refl

    by : (i : ℕ) (o : Option ℕ) → cluster_of plan i ≡ o → unwrap_or (member_value (members plan r.cluster) r.row i) (unwrap_or (value_among plan rows o i) (value_at values i)) ≡ unwrap_or (value_among plan (rows ++ r ∷ []) o i) (value_at values i)
    by i None found = rw (value_in_none (members plan r.cluster) r.row i (member_apart plan i r.cluster None is within found (none_some r.cluster))) refl
    by i (Some k) found = at (eqb_tells r.cluster k)
      where
        at : ((r.cluster == k) ≡ true × (r.cluster ≡ k)) ⊎ ((r.cluster == k) ≡ false × (r.cluster ≢ k))
            → unwrap_or (member_value (members plan r.cluster) r.row i) (unwrap_or (value_among plan rows (Some k) i) (value_at values i)) ≡ unwrap_or (value_among plan (rows ++ r ∷ []) (Some k) i) (value_at values i)
        at (inl h) =
            let none : row_among rows k ≡ None = subst (λ (j : ℕ). row_among rows j ≡ None) h.1 new in
            let own : member_value (members plan r.cluster) r.row i ≡ member_value (members plan k) r.row i = ap (λ (j : ℕ). member_value (members plan j) r.row i) h.1 in
            rw (row_among_push rows r k, h.0, none, own) (nested (member_value (members plan k) r.row i) (value_at values i))
        at (inr h) =
            let apart : member_value (members plan r.cluster) r.row i ≡ None = value_in_none (members plan r.cluster) r.row i (member_apart plan i r.cluster (Some k) is within found (λ e. h.1 (sym (some_same k r.cluster e)))) in
            rw (row_among_push rows r k, h.0, apart, or_none (row_among rows k)) refl

-- the row of one cluster is written
pub written_one : (plan : PlanData) (values : Values) (k : ℕ) (row : List CtrlValue) → IsPlan plan → length values ≡ length plan.controls → k < length plan.clusters → length row ≡ length (members plan k)
    → with_row values (members plan k) row ≡ written plan values (one_row k row)
written_one plan values k row is many within long =
    ap (λ (v : Values). with_row v (members plan k) row) (sym (written_none plan values)) ∙ written_push plan values [] (record { cluster = k; row = row }) is many within long refl

-- the clusters of rows so far don't have that of the next
new_next : (rows : List NewRow) (i : ℕ) (d : NewRow) → names_twice (clusters_of rows) ≡ false → i < length rows → row_among (take i rows) (get_or rows i d).cluster ≡ None
new_next [] i d differ lt = absurd (omega (arith, lt))
new_next (r ∷ rows) zero d differ lt = refl
new_next (r ∷ rows) (suc i) d differ lt =
    let rest : row_among (take i rows) (get_or rows i d).cluster ≡ None = new_next rows i d (or_false_right (list_any (nat_eq r.cluster) (clusters_of rows)) (names_twice (clusters_of rows)) differ) (omega (arith, lt)) in
    rw (apart rows i (or_false (list_any (nat_eq r.cluster) (clusters_of rows)) (names_twice (clusters_of rows)) differ) (omega (arith, lt))) rest
  where
    apart : (rs : List NewRow) (i : ℕ) → list_any (nat_eq r.cluster) (clusters_of rs) ≡ false → i < length rs → nat_eq r.cluster (get_or rs i d).cluster ≡ false
    apart [] i none lt = absurd (omega (arith, lt))
    apart (x ∷ rs) zero none lt = or_false (nat_eq r.cluster x.cluster) (list_any (nat_eq r.cluster) (clusters_of rs)) none
    apart (x ∷ rs) (suc i) none lt = apart rs i (or_false_right (nat_eq r.cluster x.cluster) (list_any (nat_eq r.cluster) (clusters_of rs)) none) (omega (arith, lt))

-- the next row is written
pub written_next : (plan : PlanData) (values : Values) (rows : List NewRow) (i : ℕ) (r : NewRow) → IsPlan plan → length values ≡ length plan.controls → AreNewRows plan rows → i < length rows → r ≡ get_or rows i r
    → with_row (written plan values (take i rows)) (members plan r.cluster) r.row ≡ written plan values (take (i + 1) rows)
written_next plan values rows i r is many are lt at =
    let within : r.cluster < length plan.clusters = subst (λ (x : NewRow). x.cluster < length plan.clusters) (sym at) (All-get_or (λ (x : NewRow). x.cluster < length plan.clusters) rows i r lt are.within) in
    let long : length r.row ≡ length (members plan r.cluster) = subst (λ (x : NewRow). length x.row ≡ length (members plan x.cluster)) (sym at) (All-get_or (λ (x : NewRow). length x.row ≡ length (members plan x.cluster)) rows i r lt are.long) in
    let new : row_among (take i rows) r.cluster ≡ None = subst (λ (x : NewRow). row_among (take i rows) x.cluster ≡ None) (sym at) (new_next rows i r are.differ lt) in
    written_push plan values (take i rows) r is many within long new
    ∙ ap (written plan values) (ap (λ (x : NewRow). take i rows ++ x ∷ []) at ∙ sym (take_more rows i r lt))

-- the row of the next cluster is the one that is looked for, or another is
pub among_next : (rows : List NewRow) (k i : ℕ) (d : NewRow) → i < length rows
    → row_among (drop i rows) k ≡ (if (get_or rows i d).cluster == k then Some (get_or rows i d).row else row_among (drop (i + 1) rows) k)
among_next rows k i d within = rw (drop_more rows i d within) refl

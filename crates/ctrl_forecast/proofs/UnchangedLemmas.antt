-- When a cluster comes out as it was.
use Rattle.std.proofs.Common.{◌≡◌, ◌<◌, ◌+◌, ◌&&◌, ℕ, Bool, true, false, not, cond, List, [], ◌∷◌, length, drop, get_or, refl}
use Rattle.std.specs.Bool.{Decides}
use Rattle.std.proofs.lemmas.Bool.Decides.{Decides-and}
use Rattle.std.proofs.lemmas.List.{drop_more}
use Rattle.ctrl_types.specs.Values.{is_same, zero_value}
use Rattle.ctrl_types.specs.declared.value.CtrlValue.{CtrlValue}
use Rattle.ctrl_types.proofs.ValueLemmas.{Decides-same}
use Rattle.ctrl_clusters.specs.Rows.{Values, value_at, row_of}
use Rattle.ctrl_forecast.specs.Unchanged.{are_same_values, is_same_outcome}

-- one value after another is compared
pub same_next : (values : Values) (members : List ℕ) (row : List CtrlValue) (i : ℕ) → i < length members → i < length row
    → are_same_values (row_of values (drop i members)) (drop i row)
    ≡ (is_same (value_at values (get_or members i 0)) (value_at row i) && are_same_values (row_of values (drop (i + 1) members)) (drop (i + 1) row))
same_next values members row i within there = rw (drop_more members i 0 within, drop_more row i zero_value there) refl

Decides-values : (vs ws : List CtrlValue) → Decides (are_same_values vs ws) (vs ≡ ws)
Decides-values [] [] = (λ e. refl, λ h. refl)
Decides-values [] (w ∷ ws) = (λ e. absurd (cc), λ h. absurd (cc))
Decides-values (v ∷ vs) [] = (λ e. absurd (cc), λ h. absurd (cc))
Decides-values (v ∷ vs) (w ∷ ws) =
    let both = Decides-and (is_same v w) (are_same_values vs ws) (Decides-same v w) (Decides-values vs ws) in
    (λ e. (λ i. (both.0 e).0 i ∷ (both.0 e).1 i), λ h. both.1 (cc, cc))

Decides-mark : (marked was : Bool) → Decides (cond marked was (not was)) (was ≡ marked)
Decides-mark true true = (λ e. refl, λ h. refl)
Decides-mark true false = (λ e. absurd (cc), λ h. absurd (cc))
Decides-mark false true = (λ e. absurd (cc), λ h. absurd (cc))
Decides-mark false false = (λ e. refl, λ h. refl)

-- the outcome is the same where the row and the refusal are
pub same_outcome : (had : List CtrlValue) (was : Bool) (row : List CtrlValue) (marked : Bool) → is_same_outcome had was row marked ≡ true → (had ≡ row) × (was ≡ marked)
same_outcome had was row marked h = (Decides-and (are_same_values had row) (cond marked was (not was)) (Decides-values had row) (Decides-mark marked was)).0 h

-- What is evaluated of the parts of a replay.
use Rattle.std.proofs.Common.{◌≡◌, ℕ, suc, ◌+◌, ◌≤◌, List, [], ◌∷◌, ◌++◌, map, length, take, slice_get, Some, ap, sym, length-append, ◌∙◌, arith}
use Rattle.std.specs.List.{range_with_len}
use Rattle.std.proofs.lemmas.List.{length-map, length-take-le, map-append, take_all}
use Rattle.std.proofs.lemmas.List.FromFn.{map-range_with_len_more}
use Rattle.ctrl_types.specs.declared.flags.Flags.{Flags}
use Rattle.ctrl_calls.specs.Meanings.{Verdicts}
use Rattle.ctrl_settle.specs.Control.{Control}
use Rattle.ctrl_handlers.specs.Plan.{PlanData}
use Rattle.ctrl_clusters.specs.Rows.{Grabs, Values}
use Rattle.ctrl_clusters.specs.PresentFlags.{flags_under}
use Rattle.ctrl_forecast.specs.Boards.{BoardData, board_of, named_clusters}
use Rattle.ctrl_forecast.specs.Forecasts.{QueuedData, forecast_over, forecasts}
use Rattle.ctrl_forecast.specs.declared.board.Forecast.{Forecast}
use Rattle.device_history.specs.Steps.{Past}
use Rattle.device_history.specs.Flags.{flags_now}
use Rattle.device_history.specs.Grabs.{grabbed}
use Rattle.device_history.specs.Values.{now}
use Rattle.history_audit.proofs.MadeLemmas.{taken_next}

-- the flags of one more control
pub flags_next : (verdicts : Verdicts) (plan of : PlanData) (past : Past) (c : ℕ) (values : Values) (grabs : Grabs) (flags : Flags) (old new : List Flags) → flags ≡ flags_under of values grabs c
    → of ≡ plan → values ≡ now verdicts plan past → grabs ≡ grabbed plan past → old ≡ map (flags_now verdicts plan past) (range_with_len 0 c) → new ≡ old ++ flags ∷ []
    → new ≡ map (flags_now verdicts plan past) (range_with_len 0 (c + 1))
flags_next verdicts plan of past c values grabs flags old new f p v g o n =
    let own : flags ≡ flags_now verdicts plan past c = f ∙ (λ i. flags_under (p i) (v i) (g i) c) in
    n ∙ ap (λ (fs : List Flags). fs ++ flags ∷ []) o ∙ ap (λ (x : Flags). map (flags_now verdicts plan past) (range_with_len 0 c) ++ x ∷ []) own ∙ sym (map-range_with_len_more (flags_now verdicts plan past) 0 c c (omega arith))

-- what one more element is mapped to
pub mapped_next : {X Y : Type 0} (f : X → Y) (xs : List X) (x : X) (y : Y) (old new : List Y) → Some x ≡ slice_get xs (length old) → old ≡ map f (take (length old) xs) → y ≡ f x → new ≡ old ++ y ∷ []
    → (new ≡ map f (take (length new) xs)) × (length new ≤ length xs)
mapped_next f xs x y old new there so_far is n =
    let more = taken_next xs (length old) x (sym there) in
    let many : length new ≡ suc (length old) = ap length n ∙ length-append old (y ∷ []) ∙ omega arith in (
      n ∙ ap (λ (ys : List _). ys ++ y ∷ []) so_far ∙ ap (λ (z : _). map f (take (length old) xs) ++ z ∷ []) is ∙ sym (map-append f (take (length old) xs) (x ∷ [])) ∙ ap (map f) (sym more.0) ∙ ap (λ (k : ℕ). map f (take k xs)) (sym many),
      omega (arith, many, more.1),
    )

-- how many were mapped
pub mapped_many : {X Y : Type 0} (f : X → Y) (xs : List X) (i : ℕ) (ys : List Y) → i ≤ length xs → ys ≡ map f (take i xs) → length ys ≡ i
mapped_many f xs i ys le so_far = ap length so_far ∙ length-map (take i xs) f ∙ length-take-le i xs le

-- all were
pub mapped_all : {X Y : Type 0} (f : X → Y) (xs : List X) (i : ℕ) (ys : List Y) → length xs ≤ i → ys ≡ map f (take i xs) → ys ≡ map f xs
mapped_all f xs i ys ge so_far = so_far ∙ ap (map f) (take_all i xs ge)

-- what the frame has that stands alone on a board, and the clusters that it names
pub first_laid : (verdicts : Verdicts) (plan : PlanData) (controls : List Control) (values : Values) (grabs : Grabs) (q : QueuedData) (b : BoardData) (row : Forecast) (named : List ℕ) → b ≡ board_of verdicts plan controls values grabs (q ∷ [])
    → Some row ≡ slice_get b.forecasts 0 → Some named ≡ slice_get b.named 0 → (row ≡ forecast_over verdicts plan controls values grabs q) × (named ≡ named_clusters plan q.asked)
unfolding forecasts
first_laid verdicts plan controls values grabs q b row named is first names = (one (first ∙ ap (λ (x : BoardData). slice_get x.forecasts 0) is), own (names ∙ ap (λ (x : BoardData). slice_get x.named 0) is))
  where
    one : Some row ≡ Some (forecast_over verdicts plan controls values grabs q) → row ≡ forecast_over verdicts plan controls values grabs q
    one h = cc

    own : Some named ≡ Some (named_clusters plan q.asked) → named ≡ named_clusters plan q.asked
    own h = cc

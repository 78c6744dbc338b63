-- A cluster of a frame gets the row of the values before it, member by member.
use Rattle.std.proofs.Common.{◌≡◌, ◌∙◌, ◌<◌, ◌≤◌, ◌+◌, ◌&&◌, ℕ, zero, suc, nat_eq, Bool, true, false, not, cond, List, length, drop, get_or, Result, Ok, is_err, slice_set, refl, sym, ap, subst, arith, get_or-set_same, get_or-set_other}
use Rattle.std.specs.List.{list_any}
use Rattle.std.proofs.lemmas.List.{drop_more, get_or_read_under, length-map, length-set, set-set}
use Rattle.ctrl_types.specs.Values.{is_same}
use Rattle.ctrl_types.specs.declared.errno.Errno.{Errno}
use Rattle.ctrl_types.specs.declared.ids.Pair.{Pair}
use Rattle.ctrl_types.specs.declared.value.CtrlValue.{CtrlValue}
use Rattle.ctrl_handlers.specs.Plan.{PlanData, IsPlan, members}
use Rattle.ctrl_clusters.specs.Rows.{Values, value_at, row_of}
use Rattle.ctrl_clusters.specs.Overlay.{is_touched}
use Rattle.ctrl_clusters.specs.NewRows.{with_row}
use Rattle.ctrl_clusters.proofs.NewRowLemmas.{written_one}
use Rattle.ctrl_clusters.specs.Rising.{with_or_without}
use Rattle.ctrl_forecast.specs.Frames.{AreKeptFrames, FrameData, Setting, base_at, frame_at, no_frame, renewed_at, row_or, row_result, values_before, with_row_result}
use Rattle.ctrl_forecast.specs.Unchanged.{are_same_values, is_same_outcome}
use Rattle.ctrl_forecast.proofs.RenewLemmas.{marked_room}
use Rattle.ctrl_forecast.proofs.WalkLemmas.{frame_replaced}

-- one member after another is compared
pub same_at_next : (values others : Values) (members : List ℕ) (i : ℕ) → i < length members
    → are_same_values (row_of values (drop i members)) (row_of others (drop i members))
    ≡ (is_same (value_at values (get_or members i 0)) (value_at others (get_or members i 0)) && are_same_values (row_of values (drop (i + 1) members)) (row_of others (drop (i + 1) members)))
same_at_next values others members i within = rw (drop_more members i 0 within) refl

-- the values before a frame stay where it is put
pub before_set : (values : Values) (fs : List FrameData) (p : ℕ) (f : FrameData) → values_before values (slice_set fs p f) p ≡ values_before values fs p
before_set values fs zero f = refl
before_set values fs (suc p) f = ap (λ (g : FrameData). g.values) (get_or-set_other fs (suc p) p f no_frame (λ e. absurd (omega (arith, e))))

-- a frame where some members have other values
abbrev pub with_members : FrameData → List ℕ → Values → FrameData
with_members frame cs before = record frame { values = with_row frame.values cs (row_of before cs) }

-- frames where some members of the one at a place have the values before it
abbrev pub copied : Values → ℕ → List ℕ → List FrameData → List FrameData
copied values p cs fs = slice_set fs p (with_members (frame_at fs p) cs (values_before values fs p))

-- a frame with one member's value before it
abbrev pub one_copied : Values → ℕ → ℕ → List FrameData → FrameData
one_copied values p c fs = record (frame_at fs p) { values = slice_set (frame_at fs p).values c (value_at (values_before values fs p) c) }

-- the next member is copied, and then the others
pub copied_next : (values : Values) (p : ℕ) (cs : List ℕ) (fs : List FrameData) (i : ℕ) → p < length fs → i < length cs
    → copied values p (drop (i + 1) cs) (slice_set fs p (one_copied values p (get_or cs i 0) fs)) ≡ copied values p (drop i cs) fs
copied_next values p cs fs i there within =
    set-set fs p own (with_members (frame_at next p) (drop (i + 1) cs) (values_before values next p))
    ∙ ap (λ (f : FrameData). slice_set fs p (with_members f (drop (i + 1) cs) (values_before values next p))) (get_or-set_same fs p own no_frame there)
    ∙ ap (λ (v : Values). slice_set fs p (with_members own (drop (i + 1) cs) v)) (before_set values fs p own)
    ∙ ap (λ (l : List ℕ). slice_set fs p (with_members (frame_at fs p) l (values_before values fs p))) (sym (drop_more cs i 0 within))
  where
    own : FrameData
    own = one_copied values p (get_or cs i 0) fs

    next : List FrameData
    next = slice_set fs p own

-- a frame of which the members of a cluster were copied, and that is refused or not then, has the row before it
pub copied_marked : (plan : PlanData) (values : Values) (k p : ℕ) (b : Bool) (ms : List ℕ) (fs gs : List FrameData) (read new : FrameData) → IsPlan plan → AreKeptFrames plan fs → k < length plan.clusters → p < length fs
    → ms ≡ members plan k → gs ≡ copied values p ms fs → read ≡ get_or gs p read → new ≡ record read { refused = with_or_without k b read.refused }
    → slice_set gs p new ≡ slice_set fs p (with_row_result plan k (row_of (values_before values fs p) (members plan k)) b (frame_at fs p))
unfolding AreKeptFrames
copied_marked plan values k p b ms fs gs read new is are lt there of made reads marks =
    ap (slice_set gs p) (marks ∙ ap with_mark (get_or_read_under gs p (length gs) read no_frame reads (omega (arith, there, ap length copies, length-set fs p own)) refl))
    ∙ ap (λ (l : List FrameData). slice_set l p (with_mark (frame_at l p))) copies
    ∙ set-set fs p own (with_mark (frame_at (slice_set fs p own) p))
    ∙ ap (λ (f : FrameData). slice_set fs p (with_mark f)) (get_or-set_same fs p own no_frame there)
    ∙ ap (λ (v : Values). slice_set fs p (record (frame_at fs p) { values = v; refused = with_or_without k b (frame_at fs p).refused }))
    (written_one plan (frame_at fs p).values k (row_of (values_before values fs p) (members plan k)) is (are p there).long lt (length-map (members plan k) (value_at (values_before values fs p))))
  where
    own : FrameData
    own = with_members (frame_at fs p) (members plan k) (values_before values fs p)

    with_mark : FrameData → FrameData
    with_mark f = record f { refused = with_or_without k b f.refused }

    copies : gs ≡ slice_set fs p own
    copies = made ∙ ap (λ (l : List ℕ). copied values p l fs) of

-- What is read of frames for the one at a place: the values before it, and what it asks for.
pub record IsReadAt (s : Setting) (fs : List FrameData) (p : ℕ) (base : Values) (asked : List Pair) : Type 0 where
  pub based : base ≡ base_at s fs p
  pub asks : asked ≡ (frame_at fs p).asked

pub read_at : (s : Setting) (fs gs : List FrameData) (p : ℕ) (base : Values) (asked : List Pair) (read : FrameData) → p < length fs → gs ≡ fs → base ≡ values_before s.values gs p → read ≡ get_or fs p read → asked ≡ read.asked
    → IsReadAt s fs p base asked
read_at s fs gs p base asked read there same before reads asks = record {
  based = before ∙ ap (λ (l : List FrameData). values_before s.values l p) same;
  asks = asks ∙ ap (λ (f : FrameData). f.asked) (get_or_read_under fs p (length fs) read no_frame reads there refl);
}

-- what pairs make of a cluster over these values is what they make of it at the place
pub outcome_at : (s : Setting) (fs : List FrameData) (k p : ℕ) (base : Values) (asked : List Pair) (r : Result (List CtrlValue) Errno)
    → IsReadAt s fs p base asked → row_result s base asked k ≡ r → row_result s (base_at s fs p) (frame_at fs p).asked k ≡ r
outcome_at s fs k p base asked r is out = ap (λ (v : Values). row_result s v (frame_at fs p).asked k) (sym is.based) ∙ ap (λ (pairs : List Pair). row_result s base pairs k) (sym is.asks) ∙ out

-- the row that was settled, where one was
pub settled_at : (s : Setting) (fs : List FrameData) (k p : ℕ) (base : Values) (asked : List Pair) (row : List CtrlValue) (settled : Bool)
    → IsReadAt s fs p base asked → row_result s base asked k ≡ Ok (cond settled row (row_of base (members s.plan k))) → settled ≡ true → row_result s (base_at s fs p) (frame_at fs p).asked k ≡ Ok row
settled_at s fs k p base asked row settled is out holds =
    outcome_at s fs k p base asked (Ok row) is (out ∙ ap (λ (t : Bool). Ok (cond t row (row_of base (members s.plan k)))) holds)

-- and else the row before the frame
pub kept_at : (s : Setting) (fs : List FrameData) (k p : ℕ) (base : Values) (asked : List Pair) (row : List CtrlValue) (settled : Bool)
    → IsReadAt s fs p base asked → row_result s base asked k ≡ Ok (cond settled row (row_of base (members s.plan k))) → settled ≡ false
    → row_result s (base_at s fs p) (frame_at fs p).asked k ≡ Ok (row_of (base_at s fs p) (members s.plan k))
kept_at s fs k p base asked row settled is out fails =
    outcome_at s fs k p base asked (Ok (row_of (base_at s fs p) (members s.plan k))) is
    (out ∙ ap (λ (t : Bool). Ok (cond t row (row_of base (members s.plan k)))) fails ∙ ap (λ (v : Values). Ok (row_of v (members s.plan k))) is.based)

-- a validator is asked only where they name the cluster
pub asked_at_most : (s : Setting) (fs : List FrameData) (k p : ℕ) (base : Values) (asked : List Pair) (old new : ℕ) → IsReadAt s fs p base asked
    → new ≤ old + cond (is_touched asked (members s.plan k)) 1 0 → new ≤ old + cond (is_touched (frame_at fs p).asked (members s.plan k)) 1 0
asked_at_most s fs k p base asked old new is most = omega (arith, most, ap {B = ℕ} (λ (pairs : List Pair). cond (is_touched pairs (members s.plan k)) 1 0) is.asks)

-- there is room among the refused ones then
pub room_at : (s : Setting) (fs : List FrameData) (k p : ℕ) (r : Result (List CtrlValue) Errno) → AreKeptFrames s.plan fs → k < length s.plan.clusters → p < length fs
    → row_result s (base_at s fs p) (frame_at fs p).asked k ≡ r → length (with_or_without k (is_err r) (frame_at fs p).refused) ≤ length (frame_at fs p).named
unfolding AreKeptFrames
room_at s fs k p r are lt there out =
    subst (λ (x : Result (List CtrlValue) Errno). length (with_or_without k (is_err x) (frame_at fs p).refused) ≤ length (frame_at fs p).named) out
    (marked_room s (base_at s fs p) k (frame_at fs p) (are p there) lt)

-- the row that a cluster of the frame at a place has where its pairs make this of it
abbrev pub row_at_place : Setting → List FrameData → ℕ → ℕ → Result (List CtrlValue) Errno → List CtrlValue
row_at_place s fs k p r = row_or (row_of (base_at s fs p) (members s.plan k)) r

-- A cluster that gets the row that its pairs make of it, and is refused or not, is renewed.
pub renewed_by : (s : Setting) (fs : List FrameData) (k p : ℕ) (r : Result (List CtrlValue) Errno) (changed : Bool) → AreKeptFrames s.plan fs → k < length s.plan.clusters → p < length fs
    → row_result s (base_at s fs p) (frame_at fs p).asked k ≡ r
    → changed ≡ not (is_same_outcome (row_of (frame_at fs p).values (members s.plan k)) (list_any (nat_eq k) (frame_at fs p).refused) (row_at_place s fs k p r) (is_err r))
    → slice_set fs p (cond changed (with_row_result s.plan k (row_at_place s fs k p r) (is_err r) (frame_at fs p)) (frame_at fs p)) ≡ renewed_at s k p fs
unfolding AreKeptFrames
renewed_by s fs k p r changed are lt there out is =
    ap (λ (t : Bool). slice_set fs p (cond t (with_row_result s.plan k (row_at_place s fs k p r) (is_err r) (frame_at fs p)) (frame_at fs p))) is
    ∙ ap (slice_set fs p) (frame_replaced s.plan k (row_at_place s fs k p r) (is_err r) (frame_at fs p) (are p there) lt)
    ∙ ap (λ (x : Result (List CtrlValue) Errno). slice_set fs p (with_row_result s.plan k (row_at_place s fs k p x) (is_err x) (frame_at fs p))) (sym out)

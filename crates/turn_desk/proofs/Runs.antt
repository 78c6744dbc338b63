-- A client's run, which grows by one call at a time.
use Rattle.std.proofs.Common.{◌≡◌, ℕ, List, [], ◌∷◌, ◌++◌, Option, Some, None, refl, sym, ap, ◌∙◌, subst, append_assoc, append-nil}
use Rattle.history.specs.declared.entry.Entry.{Entry}
use Rattle.history.specs.Past.{own, entered}
use Rattle.history.specs.Prefix.{IsPrefix}
use Rattle.turn_desk.specs.Views.{DeskView, SeatView, IsSeatOf, IsSameSeat}
use Rattle.turn_desk.specs.Calls.{IsCall}
use Rattle.turn_desk.specs.Runs.{IsAnswered, Made, said_in, accepted, IsMade, AreMade, HasRun, IsEntered}
use Rattle.turn_desk.proofs.Histories.{prefix_refl, prefix_push, prefix_trans}

module _ {Ask Answer S : Type 0} where
  said-append : (xs ys : List (Made Ask Answer S)) → said_in (xs ++ ys) ≡ said_in xs ++ said_in ys
  said-append [] ys = refl
  said-append (m ∷ ms) ys = ap (λ l. (m.ask, Some m.answer) ∷ l) (said-append ms ys)

  accepted-append : (n : ℕ) (xs ys : List (Made Ask Answer S)) → accepted n (xs ++ ys) ≡ accepted n xs ++ accepted n ys
  accepted-append n [] ys = refl
  accepted-append n (m ∷ ms) ys = ap (λ l. entered n m.step ++ l) (accepted-append n ms ys) ∙ sym (append_assoc (entered n m.step) (accepted n ms) (accepted n ys))

  accepted-last : (n : ℕ) (ms : List (Made Ask Answer S)) (m : Made Ask Answer S) → accepted n (ms ++ m ∷ []) ≡ accepted n ms ++ entered n m.step
  accepted-last n ms m = accepted-append n ms (m ∷ []) ∙ ap (λ l. accepted n ms ++ l) (append-nil (entered n m.step))

module _ {P S : Type 0} where
  pub seat_of_same : (d : DeskView P) (s t : SeatView P S) → IsSeatOf d s → IsSameSeat s t → IsSeatOf d t
  seat_of_same d s t mine same = record { made_by = same.desk ∙ mine.made_by; planned = same.plan ∙ mine.planned }

module _ {P S Ask Answer : Type 0} (is_legal : P → List (Entry S) → Type 0) (answers : P → List (Entry S) → Ask → Answer → Type 0) (taken : P → List (Entry S) → Ask → Answer → Option S) (plan : P) where
  -- no call was made yet
  pub run_none : (s : SeatView P S) (said : List (Ask × Option Answer)) → HasRun is_legal answers taken plan s said s said
  run_none s said = record {
    stays = record { same = record { desk = refl; plan = refl; number = refl }; later = prefix_refl s.seen };
    made = [];
    transcript = sym (append-nil said);
    calls = refl;
    own = sym (append-nil (own s.number s.seen));
  }

  made_last : (n : ℕ) (before : List (Entry S)) (ms : List (Made Ask Answer S)) (seen : List (Entry S)) (m : Made Ask Answer S) (after : List (Entry S))
      → AreMade is_legal answers taken plan n before ms seen → IsMade is_legal answers taken plan n seen m after → AreMade is_legal answers taken plan n before (ms ++ m ∷ []) after
  made_last n before [] seen m after same made = (after, subst (λ b. IsMade is_legal answers taken plan n b m after) same made, refl)
  made_last n before (x ∷ ms) seen m after all made = (all.0, all.1, made_last n all.0 ms seen m after all.2 made)

  -- a call more, whose ask comes last in the transcript and then has its answer
  pub run_more : (s t u : SeatView P S) (said so_far asked heard : List (Ask × Option Answer)) (ask : Ask) (answer : Answer) → HasRun is_legal answers taken plan s said t so_far
      → IsSameSeat t u → IsCall is_legal answers taken plan t.number t.seen ask answer u.seen → asked ≡ so_far ++ (ask, None) ∷ [] → IsAnswered answer asked heard → HasRun is_legal answers taken plan s said u heard
  run_more s t u said so_far asked heard ask answer r same call asks hears =
      let m : Made Ask Answer S = record { ask = ask; answer = answer; step = taken plan call.past ask answer } in
      let n = s.number in
      let was = r.stays.same in
      let made : IsMade is_legal answers taken plan n t.seen m u.seen = subst (λ k. IsMade is_legal answers taken plan k t.seen m u.seen) was.number (record { call = call; step = refl }) in
      let later : IsPrefix t.seen u.seen = subst (IsPrefix t.seen) (sym call.seen) (prefix_push (entered t.number (taken plan call.past ask answer)) call.later) in
      record {
        stays = record { same = record { desk = same.desk ∙ was.desk; plan = same.plan ∙ was.plan; number = same.number ∙ was.number }; later = prefix_trans r.stays.later later };
        made = r.made ++ m ∷ [];
        transcript = hears so_far ask asks ∙ ap (λ l. l ++ (ask, Some answer) ∷ []) r.transcript ∙ append_assoc said (said_in r.made) ((ask, Some answer) ∷ []) ∙ ap (λ l. said ++ l) (sym (said-append r.made (m ∷ [])));
        calls = made_last n s.seen r.made t.seen m u.seen r.calls made;
        own = made.call.alone ∙ ap (λ x. own n t.seen ++ entered n x) (sym made.step) ∙ ap (λ l. l ++ entered n m.step) r.own
            ∙ append_assoc (own n s.seen) (accepted n r.made) (entered n m.step) ∙ ap (λ l. own n s.seen ++ l) (sym (accepted-last n r.made m));
      }

  -- a closed desk has all steps of the seat's number that the seat has seen, and no others
  pub run_entered : (s t : SeatView P S) (said heard : List (Ask × Option Answer)) (steps : List (Entry S)) → HasRun is_legal answers taken plan s said t heard
      → IsPrefix t.seen steps → own t.number steps ≡ own t.number t.seen → IsEntered is_legal answers taken plan s said heard steps
  run_entered s t said heard steps r later whole = record {
    made = r.made;
    transcript = r.transcript;
    seen = t.seen;
    calls = r.calls;
    later = later;
    own = subst (λ n. own n steps ≡ own n t.seen) r.stays.same.number whole ∙ r.own;
  }

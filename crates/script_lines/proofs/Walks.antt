-- The words of a line, one after another.
use Rattle.std.proofs.Common.{◌≡◌, ℕ, ◌+◌, ◌<◌, ◌≤◌, ◌==◌, zero, suc, false, true, List, [], ◌∷◌, ◌++◌, Option, None, Some, refl, sym, ◌∙◌, length, drop, take, set, slice_index, arith, ap, map, All, Bor, append-nil, append_assoc, filter, not, take-append-drop, add-one}
use Rattle.std.specs.Bool.{⊤}
use Rattle.std.specs.List.{slice_split}
use Rattle.std.specs.Option.{option_map, option_and_then}
use Rattle.std.proofs.lemmas.Grind.{common_steps}
use Rattle.std.proofs.lemmas.List.Elements.{All-head, All-tail}
use Rattle.ctrl_types.specs.declared.ids.CtrlId.{CtrlId}
use Rattle.ctrl_types.specs.declared.ids.ExtControl.{ExtControl}
use Rattle.script_lines.specs.ControlWords.{ControlWord}
use Rattle.script_lines.specs.Commands.{words, command_of, entry_of, list_of, list_command_of, list_parts, onto, subscribe_parts, which_of}
use Rattle.script_lines.specs.Lexemes.{control_id}
use Rattle.script_lines.specs.Names.{name_of}
use Rattle.script_lines.specs.Walking.{BeginsWithWord, EndsWord, head_of, head_parts, is_short}
use Rattle.script_lines.specs.declared.command.Command.{Command}
use Rattle.script_lines.specs.declared.command.WhichWord.{WhichWord}
use Rattle.script_lines.specs.declared.name.Name.{Name}
use Rattle.script_lines.specs.declared.parse.EntryForm.{EntryForm}
use Rattle.script_lines.specs.declared.parse.Verb.{Verb}
use Rattle.script_lines.specs.declared.parse.Verb.TheVariants as verbs

abbrev pub HasNoSpace : List ℕ → Type 0
HasNoSpace w = All (λ b. (b == 32) ≡ false) w

-- a text without a space is one part
one_part : (w : List ℕ) → HasNoSpace w → slice_split (λ b. b == 32) w ≡ w ∷ []
one_part [] h = refl
one_part (x ∷ xs) h = rw (All-head (λ b. (b == 32) ≡ false) x xs h, one_part xs (All-tail (λ b. (b == 32) ≡ false) x xs h)) refl

-- the first part ends at a space
first_part : (w ys : List ℕ) → HasNoSpace w → slice_split (λ b. b == 32) (w ++ 32 ∷ ys) ≡ w ∷ slice_split (λ b. b == 32) ys
first_part [] ys h = refl
first_part (x ∷ xs) ys h = rw (All-head (λ b. (b == 32) ≡ false) x xs h, first_part xs ys (All-tail (λ b. (b == 32) ≡ false) x xs h)) refl

-- a text that is empty, or begins with a space
abbrev BeginsWithSpace : List ℕ → Type 0
BeginsWithSpace [] = ⊤
BeginsWithSpace (b ∷ text) = b ≡ 32

behind_word : (xs : List ℕ) (n : ℕ) → EndsWord xs n → BeginsWithSpace (drop n xs)
behind_word [] zero k = tt
behind_word [] (suc n) k = tt
behind_word (x ∷ xs) zero k = k (omega arith)
behind_word (x ∷ xs) (suc n) k = behind_word xs n (λ l. k (omega arith))

has_bytes : (n : ℕ) → not (suc n == 0) ≡ true
has_bytes n = grind (arith, common_steps)

-- what is no empty part is a word
kept : (x : ℕ) (w : List ℕ) (parts : List (List ℕ)) → filter (λ v. not (length v == 0)) ((x ∷ w) ∷ parts) ≡ (x ∷ w) ∷ filter (λ v. not (length v == 0)) parts
kept x w parts = rw (has_bytes (length w)) refl

word_before : (x : ℕ) (w rest : List ℕ) → HasNoSpace (x ∷ w) → BeginsWithSpace rest → words ((x ∷ w) ++ rest) ≡ (x ∷ w) ∷ words rest
word_before x w [] h r = ap words (append-nil (x ∷ w)) ∙ ap (filter (λ v. not (length v == 0))) (one_part (x ∷ w) h) ∙ kept x w []
word_before x w (y ∷ ys) h r =
    rw r (ap (filter (λ v. not (length v == 0))) (first_part (x ∷ w) ys h) ∙ kept x w (slice_split (λ b. b == 32) ys))

-- the first word of a text that begins with one
pub word_at : (text : List ℕ) (e : ℕ) → 0 < length text → BeginsWithWord text → HasNoSpace (take e text) → EndsWord text e
    → words text ≡ take e text ∷ words (drop e text)
word_at [] e some begins none ends = absurd (omega arith)
word_at (x ∷ xs) zero some begins none ends = absurd (begins (ends (omega arith)))
word_at (x ∷ xs) (suc n) some begins none ends =
    ap words (sym (take-append-drop (suc n) (x ∷ xs))) ∙ word_before x (take n xs) (drop n xs) none (behind_word (x ∷ xs) (suc n) ends)

-- a text without a byte has no words
pub no_words : (text : List ℕ) → length text ≡ 0 → words text ≡ []
no_words [] h = refl
no_words (x ∷ xs) h = absurd (omega arith)

-- the entries of a list stand behind its head
by_parts : (make : Name → WhichWord → List ExtControl → Command) (fh : Option Name) (which : Option WhichWord) (list : Option (List ExtControl)) (entries : List (List ℕ))
    (read : List (List ℕ) → Option (List ExtControl)) → list ≡ read entries
    → list_parts make fh which list ≡ option_and_then (λ h. option_map (λ es. make h.0 h.1 es) (read h.2)) (head_parts fh which entries)
by_parts make (Some fh) (Some which) (Some list) entries read is = rw (← is) refl
by_parts make (Some fh) (Some which) None entries read is = rw (← is) refl
by_parts make (Some fh) None list entries read is = refl
by_parts make None which list entries read is = refl

pub list_by_head : (known : List ControlWord) (make : Name → WhichWord → List ExtControl → Command) (form : EntryForm) (ws : List (List ℕ))
    → list_command_of known make form ws ≡ option_and_then (λ h. option_map (λ es. make h.0 h.1 es) (list_of known form h.2)) (head_of ws)
list_by_head known make form [] = refl
list_by_head known make form (fh ∷ []) = refl
list_by_head known make form (fh ∷ which ∷ entries) =
    by_parts make (name_of fh) (which_of which) (list_of known form entries) entries (list_of known form) refl

onto_items : (items es : List ExtControl) (e : ExtControl) → items ++ e ∷ es ≡ (items ++ e ∷ []) ++ es
onto_items items es e = sym (append_assoc items (e ∷ []) es)

entry_onto : (items : List ExtControl) (e : ExtControl) (r : Option (List ExtControl))
    → option_map (λ es. items ++ es) (onto (Some e) r) ≡ option_map (λ es. (items ++ e ∷ []) ++ es) r
entry_onto items e (Some es) = ap (λ (x : List ExtControl). Some x) (onto_items items es e)
entry_onto items e None = refl

-- one more entry of a list
pub entry_more : (known : List ControlWord) (form : EntryForm) (w : List ℕ) (ws : List (List ℕ)) (items : List ExtControl) (e : ExtControl) → entry_of known form w ≡ Some e
    → option_map (λ es. items ++ es) (list_of known form (w ∷ ws)) ≡ option_map (λ es. (items ++ e ∷ []) ++ es) (list_of known form ws)
entry_more known form w ws items e h = rw h (entry_onto items e (list_of known form ws))

-- a word of three bytes, by its bytes
pub three : (w : List ℕ) (a b c : ℕ) → length w ≡ 3 → slice_index w 0 ≡ a → slice_index w 1 ≡ b → slice_index w 2 ≡ c
    → w ≡ a ∷ b ∷ c ∷ []
three [] a b c len e0 e1 e2 = absurd (omega arith)
three (p ∷ []) a b c len e0 e1 e2 = absurd (omega arith)
three (p ∷ q ∷ []) a b c len e0 e1 e2 = absurd (omega arith)
three (p ∷ q ∷ r ∷ []) a b c len e0 e1 e2 = rw (e0, e1, e2) refl
three (p ∷ q ∷ r ∷ x ∷ ws) a b c len e0 e1 e2 = absurd (omega arith)

-- a word of four bytes, by its bytes
pub four : (w : List ℕ) (a b c d : ℕ) → length w ≡ 4 → slice_index w 0 ≡ a → slice_index w 1 ≡ b → slice_index w 2 ≡ c → slice_index w 3 ≡ d
    → w ≡ a ∷ b ∷ c ∷ d ∷ []
four [] a b c d len e0 e1 e2 e3 = absurd (omega arith)
four (p ∷ []) a b c d len e0 e1 e2 e3 = absurd (omega arith)
four (p ∷ q ∷ []) a b c d len e0 e1 e2 e3 = absurd (omega arith)
four (p ∷ q ∷ r ∷ []) a b c d len e0 e1 e2 e3 = absurd (omega arith)
four (p ∷ q ∷ r ∷ s ∷ []) a b c d len e0 e1 e2 e3 = rw (e0, e1, e2, e3) refl
four (p ∷ q ∷ r ∷ s ∷ x ∷ ws) a b c d len e0 e1 e2 e3 = absurd (omega arith)

-- a word of five bytes, by its bytes
pub five : (w : List ℕ) (a b c d e : ℕ) → length w ≡ 5 → slice_index w 0 ≡ a → slice_index w 1 ≡ b → slice_index w 2 ≡ c → slice_index w 3 ≡ d → slice_index w 4 ≡ e
    → w ≡ a ∷ b ∷ c ∷ d ∷ e ∷ []
five [] a b c d e len e0 e1 e2 e3 e4 = absurd (omega arith)
five (p ∷ []) a b c d e len e0 e1 e2 e3 e4 = absurd (omega arith)
five (p ∷ q ∷ []) a b c d e len e0 e1 e2 e3 e4 = absurd (omega arith)
five (p ∷ q ∷ r ∷ []) a b c d e len e0 e1 e2 e3 e4 = absurd (omega arith)
five (p ∷ q ∷ r ∷ s ∷ []) a b c d e len e0 e1 e2 e3 e4 = absurd (omega arith)
five (p ∷ q ∷ r ∷ s ∷ t ∷ []) a b c d e len e0 e1 e2 e3 e4 = rw (e0, e1, e2, e3, e4) refl
five (p ∷ q ∷ r ∷ s ∷ t ∷ x ∷ ws) a b c d e len e0 e1 e2 e3 e4 = absurd (omega arith)

-- a word of six bytes, by its bytes
pub six : (w : List ℕ) (a b c d e f : ℕ) → length w ≡ 6 → slice_index w 0 ≡ a → slice_index w 1 ≡ b → slice_index w 2 ≡ c → slice_index w 3 ≡ d → slice_index w 4 ≡ e → slice_index w 5 ≡ f
    → w ≡ a ∷ b ∷ c ∷ d ∷ e ∷ f ∷ []
six [] a b c d e f len e0 e1 e2 e3 e4 e5 = absurd (omega arith)
six (p ∷ []) a b c d e f len e0 e1 e2 e3 e4 e5 = absurd (omega arith)
six (p ∷ q ∷ []) a b c d e f len e0 e1 e2 e3 e4 e5 = absurd (omega arith)
six (p ∷ q ∷ r ∷ []) a b c d e f len e0 e1 e2 e3 e4 e5 = absurd (omega arith)
six (p ∷ q ∷ r ∷ s ∷ []) a b c d e f len e0 e1 e2 e3 e4 e5 = absurd (omega arith)
six (p ∷ q ∷ r ∷ s ∷ t ∷ []) a b c d e f len e0 e1 e2 e3 e4 e5 = absurd (omega arith)
six (p ∷ q ∷ r ∷ s ∷ t ∷ u ∷ []) a b c d e f len e0 e1 e2 e3 e4 e5 = rw (e0, e1, e2, e3, e4, e5) refl
six (p ∷ q ∷ r ∷ s ∷ t ∷ u ∷ x ∷ ws) a b c d e f len e0 e1 e2 e3 e4 e5 = absurd (omega arith)

-- a word of eight bytes, by its bytes
pub eight : (w : List ℕ) (a b c d e f g h : ℕ) → length w ≡ 8 → slice_index w 0 ≡ a → slice_index w 1 ≡ b → slice_index w 2 ≡ c → slice_index w 3 ≡ d → slice_index w 4 ≡ e → slice_index w 5 ≡ f → slice_index w 6 ≡ g → slice_index w 7 ≡ h
    → w ≡ a ∷ b ∷ c ∷ d ∷ e ∷ f ∷ g ∷ h ∷ []
eight [] a b c d e f g h len e0 e1 e2 e3 e4 e5 e6 e7 = absurd (omega arith)
eight (p ∷ []) a b c d e f g h len e0 e1 e2 e3 e4 e5 e6 e7 = absurd (omega arith)
eight (p ∷ q ∷ []) a b c d e f g h len e0 e1 e2 e3 e4 e5 e6 e7 = absurd (omega arith)
eight (p ∷ q ∷ r ∷ []) a b c d e f g h len e0 e1 e2 e3 e4 e5 e6 e7 = absurd (omega arith)
eight (p ∷ q ∷ r ∷ s ∷ []) a b c d e f g h len e0 e1 e2 e3 e4 e5 e6 e7 = absurd (omega arith)
eight (p ∷ q ∷ r ∷ s ∷ t ∷ []) a b c d e f g h len e0 e1 e2 e3 e4 e5 e6 e7 = absurd (omega arith)
eight (p ∷ q ∷ r ∷ s ∷ t ∷ u ∷ []) a b c d e f g h len e0 e1 e2 e3 e4 e5 e6 e7 = absurd (omega arith)
eight (p ∷ q ∷ r ∷ s ∷ t ∷ u ∷ v ∷ []) a b c d e f g h len e0 e1 e2 e3 e4 e5 e6 e7 = absurd (omega arith)
eight (p ∷ q ∷ r ∷ s ∷ t ∷ u ∷ v ∷ w ∷ []) a b c d e f g h len e0 e1 e2 e3 e4 e5 e6 e7 = rw (e0, e1, e2, e3, e4, e5, e6, e7) refl
eight (p ∷ q ∷ r ∷ s ∷ t ∷ u ∷ v ∷ w ∷ x ∷ ws) a b c d e f g h len e0 e1 e2 e3 e4 e5 e6 e7 = absurd (omega arith)

-- operands that are more than five are none of a command that isn't about a list
no_flags : (fh : Option Name) (id : Option CtrlId) → subscribe_parts fh id None ≡ None
no_flags (Some fh) (Some id) = refl
no_flags (Some fh) None = refl
no_flags None id = refl

pub too_many : (known : List ControlWord) (verb : Verb) (a b c d e f : List ℕ) (ws : List (List ℕ)) → is_short verb ≡ true
    → command_of known (Some verb) (a ∷ b ∷ c ∷ d ∷ e ∷ f ∷ ws) ≡ None
too_many known verbs.Open a b c d e f ws h = refl
too_many known verbs.Close a b c d e f ws h = refl
too_many known verbs.Get a b c d e f ws h = cc
too_many known verbs.Set a b c d e f ws h = cc
too_many known verbs.Try a b c d e f ws h = cc
too_many known verbs.Grab a b c d e f ws h = refl
too_many known verbs.Range a b c d e f ws h = refl
too_many known verbs.Query a b c d e f ws h = refl
too_many known verbs.Next a b c d e f ws h = refl
too_many known verbs.Menu a b c d e f ws h = refl
too_many known verbs.Told a b c d e f ws h = refl
too_many known verbs.Buffer a b c d e f ws h = refl
too_many known (verbs.OfRequest verb) a b c d e f ws h = refl
too_many known verbs.Row a b c d e f ws h = refl
too_many known verbs.Begin a b c d e f ws h = refl
too_many known verbs.Complete a b c d e f ws h = refl
too_many known verbs.Off a b c d e f ws h = refl
too_many known verbs.Subscribe a b c d e f ws h = no_flags (name_of a) (control_id known b)
too_many known verbs.Unsubscribe a b c d e f ws h = refl
too_many known verbs.Take a b c d e f ws h = refl
too_many known verbs.Audit a b c d e f ws h = refl

-- the same of words behind one another, five of which were seen
pub five_and_more : (known : List ControlWord) (verb : Verb) (seen : List (List ℕ)) (w : List ℕ) (ws : List (List ℕ)) → is_short verb ≡ true → length seen ≡ 5
    → command_of known (Some verb) (seen ++ w ∷ ws) ≡ None
five_and_more known verb (a ∷ b ∷ c ∷ d ∷ e ∷ []) w ws h len = too_many known verb a b c d e w ws h
five_and_more known verb (a ∷ b ∷ c ∷ d ∷ e ∷ f ∷ seen) w ws h len = absurd (omega arith)
five_and_more known verb [] w ws h len = absurd (omega arith)
five_and_more known verb (a ∷ []) w ws h len = absurd (omega arith)
five_and_more known verb (a ∷ b ∷ []) w ws h len = absurd (omega arith)
five_and_more known verb (a ∷ b ∷ c ∷ []) w ws h len = absurd (omega arith)
five_and_more known verb (a ∷ b ∷ c ∷ d ∷ []) w ws h len = absurd (omega arith)

pub count_seen : (room : List (Bor (List ℕ))) (i : ℕ) → i ≤ length room → length (map (λ v. v.now) (take i room)) ≡ i
count_seen [] zero h = refl
count_seen [] (suc i) h = absurd (omega arith)
count_seen (w ∷ room) zero h = refl
count_seen (w ∷ room) (suc i) h = ap suc (count_seen room i (omega arith))

-- one more word is put into its place
put_word : (room : List (Bor (List ℕ))) (i : ℕ) (w : Bor (List ℕ)) (seen : List (List ℕ)) → i < length room
    → map (λ v. v.now) (take (suc i) (set room i w)) ++ seen ≡ map (λ v. v.now) (take i room) ++ w.now ∷ seen
put_word [] i w seen h = absurd (omega arith)
put_word (v ∷ room) zero w seen h = refl
put_word (v ∷ room) (suc i) w seen h = ap (λ (vs : List (List ℕ)). v.now ∷ vs) (put_word room i w seen (omega arith))

pub put_more : (room : List (Bor (List ℕ))) (i : ℕ) (w : Bor (List ℕ)) (all seen rest : List (List ℕ)) → i < length room
    → all ≡ map (λ v. v.now) (take i room) ++ rest → rest ≡ w.now ∷ seen
    → all ≡ map (λ v. v.now) (take (i + 1) (set room i w)) ++ seen
put_more room i w all seen rest within is next =
    rw add-one (is ∙ ap (λ (vs : List (List ℕ)). map (λ v. v.now) (take i room) ++ vs) next ∙ sym (put_word room i w seen within))

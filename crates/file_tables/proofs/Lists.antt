-- Items and keys as lists.
use Rattle.std.proofs.Common.{◌≡◌, ℕ, suc, ◌+◌, List, [], ◌∷◌, Bool, cond, not, ◌||◌, length, map, position, BTreeMap, Global, String, string_bytes, refl, ap, sym, ◌∙◌}
use Rattle.std.specs.BTreeMap.{keys}
use Rattle.std.specs.List.{list_any, prefix_len}
use Rattle.std.specs.Map.{keys_of}
use Rattle.toml.specs.Data.{Data}
use Rattle.toml.specs.View.{items_of, members_view, table_view}
use Rattle.toml.specs.declared.value.Value.{Value}
use Rattle.file_tables.specs.Reading.{is_key_of, keys_in, listed}
use Rattle.file_faults.specs.declared.key.Key.{Key}

pub listed_items : (ds : List Data) → listed (items_of ds) ≡ ds
listed_items [] = refl
listed_items (d ∷ ds) = ap (λ (rest : List Data). d ∷ rest) (listed_items ds)

-- the keys of some entries are the texts of their keys
keys_seen : (es : List (String Global × Value)) → keys_in (members_view es) ≡ map string_bytes (keys_of es)
keys_seen [] = refl
keys_seen (e ∷ es) = ap (λ (rest : List (List ℕ)). string_bytes e.0 ∷ rest) (keys_seen es)

prefix_len_map : {A B : Type 0} (p : B → Bool) (f : A → B) (xs : List A) → prefix_len p (map f xs) ≡ prefix_len (λ x. p (f x)) xs
prefix_len_map p f [] = refl
prefix_len_map p f (x ∷ xs) = ap (λ (n : ℕ). cond (p (f x)) (1 + n) 0) (prefix_len_map p f xs)

length_map : {A B : Type 0} (f : A → B) (xs : List A) → length (map f xs) ≡ length xs
length_map f [] = refl
length_map f (x ∷ xs) = ap (λ (n : ℕ). suc n) (length_map f xs)

pub position_map : {A B : Type 0} (p : B → Bool) (f : A → B) (xs : List A) → position p (map f xs) ≡ position (λ x. p (f x)) xs
position_map p f xs = rw (prefix_len_map (λ y. not (p y)) f xs, length_map f xs) refl

-- a test of what some values say
pub any_map : {A B : Type 0} (p : B → Bool) (f : A → B) (xs : List A) → list_any p (map f xs) ≡ list_any (λ x. p (f x)) xs
any_map p f [] = refl
any_map p f (x ∷ xs) = ap (λ (b : Bool). p (f x) || b) (any_map p f xs)

-- the first key that is none of these stands at the same place in both
pub others_in : (known : List Key) (m : BTreeMap (String Global) Value) → position (λ key. not (is_key_of known (string_bytes key))) (keys m) ≡ position (λ text. not (is_key_of known text)) (keys_in (table_view m))
others_in known m =
    sym (position_map (λ (text : List ℕ). not (is_key_of known text)) string_bytes (keys m))
    ∙ ap (position (λ (text : List ℕ). not (is_key_of known text))) (sym (keys_seen m.entries))

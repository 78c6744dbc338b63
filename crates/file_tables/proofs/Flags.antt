-- The flags that a file names are none that come and go as the device runs.
use Rattle.std.proofs.Common.{◌≡◌, ℕ, ◌+◌, ◌==◌, List, [], ◌∷◌, Bool, true, false, cond, subst, not, bit_and, bit_or, Option, Some, None, IfSome, Result, Ok, IfOk, codes, refl, ap, ◌∙◌}
use Rattle.std.specs.Option.{ok_or, option_and_then}
use Rattle.std.specs.Str.{bytes_eq}
use Rattle.std.proofs.lemmas.Nat.{and_or_apart}
use Rattle.toml.specs.Data.{Data, as_str}
use Rattle.ctrl_settle.specs.Faults.{CanDeclare}
use Rattle.file_tables.specs.Controls.{bits_from, flag_bits_of, flag_of, flags_with}
use Rattle.file_faults.specs.Faults.{◌>>=◌, wrong_at}
use Rattle.file_tables.specs.Names.{flag_named}
use Rattle.file_faults.specs.declared.fault.KeyFault.{KeyFault}
use Rattle.file_faults.specs.declared.key.Key.TheVariants as keys
use Rattle.file_faults.specs.declared.problem.Problem.TheVariants as problems

-- GRABBED and INACTIVE aren't among these bits
abbrev IsApart : ℕ → Type 0
IsApart bits = bit_and bits 18 ≡ 0

or_apart : (bit : ℕ) (rest : Option ℕ) (b : Bool) → IsApart bit → IfSome rest IsApart → IfSome (cond b (Some bit) rest) IsApart
or_apart bit rest true this others = this
or_apart bit rest false this others = others

flag_apart : (text : List ℕ) → IfSome (flag_named text) IsApart
flag_apart text =
    or_apart 0x1 _ (bytes_eq text (codes "disabled")) refl
    (or_apart 0x4 _ (bytes_eq text (codes "read_only")) refl
    (or_apart 0x8 _ (bytes_eq text (codes "update")) refl
    (or_apart 0x20 _ (bytes_eq text (codes "slider")) refl
    (or_apart 0x40 _ (bytes_eq text (codes "write_only")) refl
    (or_apart 0x200 _ (bytes_eq text (codes "execute_on_write")) refl
    (or_apart 0x400 None (bytes_eq text (codes "modify_layout")) refl tt))))))

named_apart : (text : Option (List ℕ)) → IfSome (option_and_then flag_named text) IsApart
named_apart (Some text) = flag_apart text
named_apart None = tt

-- the bits of some values, behind bits that are apart
abbrev bits_with : ℕ → ℕ → List Data → Result ℕ KeyFault
bits_with bits place ds = bits_from flag_of keys.Flags problems.UnknownFlag bits place ds

next_apart : (bit : Option ℕ) → IfSome bit IsApart → (ds : List Data) (bits place : ℕ) → IsApart bits → ((more : ℕ) → IsApart more → IfOk (bits_with more (place + 1) ds) IsApart)
    → IfOk (ok_or bit (wrong_at keys.Flags place problems.UnknownFlag) >>= (λ more. bits_with (bit_or bits more) (place + 1) ds)) IsApart
next_apart None apart ds bits place h rest = tt
next_apart (Some more) apart ds bits place h rest = rest (bit_or bits more) (and_or_apart 18 bits more apart ∙ h)

bits_apart : (ds : List Data) (bits place : ℕ) → IsApart bits → IfOk (bits_with bits place ds) IsApart
bits_apart [] bits place h = h
bits_apart (d ∷ ds) bits place h = next_apart (flag_of d) (named_apart (as_str d)) ds bits place h (λ more apart. bits_apart ds more (place + 1) apart)

declared_from : (r : Result ℕ KeyFault) (bits : ℕ) → IfOk r IsApart → r ≡ Ok bits → IsApart bits
declared_from r bits h e = subst (λ (s : Result ℕ KeyFault). IfOk s IsApart) e h

-- such bits may be declared
pub flags_declared : (ds : List Data) (bits : ℕ) → flag_bits_of ds ≡ Ok bits → CanDeclare (flags_with bits)
flags_declared ds bits e = ap (λ (n : ℕ). not (n == 0)) (declared_from (flag_bits_of ds) bits (bits_apart ds 0 0 refl) e)

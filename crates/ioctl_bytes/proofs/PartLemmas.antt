-- Reading behind a write.
use Rattle.std.proofs.Common.{rules, ◌≡◌, ◌≤◌, ◌<◌, ◌+◌, ◌-◌, ◌^◌, ◌⊎◌, ◌++◌, ℕ, List, length, take, drop, ap, ◌∙◌, sym, inl, inr}
use Rattle.std.proofs.Math.Seq.{drop-append-add}
use Rattle.std.proofs.lemmas.List.{drop_at, drop-drop, drop-append-le, length-take-le, length-drop, take-append-drop}
use Rattle.byteorder.specs.Endian.{little_number, little_bytes}
use Rattle.byteorder.specs.Numbers.{little_from-append, little_number-reads_back}
use Rattle.ioctl_bytes.specs.Fields.{number_in, with_part}

pub read_back : (n at x : ℕ) (bytes : List ℕ) → at + n ≤ length bytes → x < 256 ^ n → number_in n at (with_part at (little_bytes n x) bytes) ≡ x
read_back n at x bytes inside fits =
    let rest = drop (at + length (little_bytes n x)) bytes in
    ap (little_number n) (drop_at (take at bytes) (little_bytes n x ++ rest) at (length-take-le at bytes (search rules)))
    ∙ little_number-reads_back n x rest fits

-- what lies in a front is read of the front alone
in_front : (n at : ℕ) (front rest : List ℕ) → at + n ≤ length front → number_in n at (front ++ rest) ≡ number_in n at front
in_front n at front rest inside =
    ap (little_number n) (drop-append-le at front rest (search rules))
    ∙ little_from-append n (drop at front) rest (search (rules, length-drop))

before : (n at place : ℕ) (part bytes : List ℕ) → place + length part ≤ length bytes → at + n ≤ place → number_in n at (with_part place part bytes) ≡ number_in n at bytes
before n at place part bytes inside earlier =
    let front = length-take-le place bytes (search rules) in
    in_front n at (take place bytes) (part ++ drop (place + length part) bytes) (search (rules, front))
    ∙ sym (in_front n at (take place bytes) (drop place bytes) (search (rules, front)))
    ∙ ap (number_in n at) (take-append-drop place bytes)

-- what lies behind a part is read behind it
dropped : (place : ℕ) (part bytes : List ℕ) (more : ℕ) → place ≤ length bytes → drop (place + (length part + more)) (with_part place part bytes) ≡ drop (place + length part + more) bytes
dropped place part bytes more inside =
    let front = length-take-le place bytes inside in
    let rest = drop (place + length part) bytes in
    ap (λ n. drop (n + (length part + more)) (with_part place part bytes)) (sym front)
    ∙ drop-append-add (take place bytes) (part ++ rest) (length part + more)
    ∙ drop-append-add part rest more
    ∙ drop-drop more (place + length part) bytes

behind : (n at place : ℕ) (part bytes : List ℕ) → place + length part ≤ length bytes → place + length part ≤ at → number_in n at (with_part place part bytes) ≡ number_in n at bytes
behind n at place part bytes inside later =
    let more = at - (place + length part) in
    ap (little_number n)
    (ap (λ a. drop a (with_part place part bytes)) (search rules)
    ∙ dropped place part bytes more (search rules)
    ∙ ap (λ a. drop a bytes) (search rules))

pub others_stay : (n at place : ℕ) (part bytes : List ℕ) → place + length part ≤ length bytes → at + n ≤ length bytes → (at + n ≤ place) ⊎ (place + length part ≤ at)
    → number_in n at (with_part place part bytes) ≡ number_in n at bytes
others_stay n at place part bytes inside whole (inl earlier) = before n at place part bytes inside earlier
others_stay n at place part bytes inside whole (inr later) = behind n at place part bytes inside later

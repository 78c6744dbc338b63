-- What stands in front of a payload, and what is put behind it.
use borrow.Rule.Slice.PartMut.{put_mid}
use Rattle.std.proofs.Common.{arith, ◌≡◌, ◌≤◌, ◌+◌, ◌-◌, ◌∙◌, ◌++◌, ◌&&◌, ℕ, Bool, true, false, if◌then◌else◌, List, [], length, take, drop, ap, sym, refl}
use Rattle.std.proofs.Math.Seq.{drop-append-add, drop-append_seam, take-append_seam}
use Rattle.std.proofs.Math.ListN.{drop_of_length-le}
use Rattle.std.proofs.lemmas.List.{append-nil, append_assoc, drop-append-le, drop-drop, length-append, length-drop, length-take, length-take-le}
use Rattle.byteorder.specs.Endian.{little_bytes}
use Rattle.ioctl_bytes.specs.Fields.{with_u32}
use Rattle.camera_messages.specs.declared.reply_buffer.Head.{Head}
use Rattle.camera_messages.specs.Replies.{Puts, ReplyData, Says, bare, bytes_of_reply, counted, front}

-- a field behind those in front of it
one_more : (at x : ℕ) (fields bytes : List ℕ) → length fields ≡ at → with_u32 at x (fields ++ drop at bytes) ≡ fields ++ little_bytes 4 x ++ drop (at + 4) bytes
one_more at x fields bytes long =
    let part = little_bytes 4 x in
    let before : take at (fields ++ drop at bytes) ≡ fields = ap (λ n. take n (fields ++ drop at bytes)) (sym long) ∙ take-append_seam fields (drop at bytes) in
    let behind : drop (at + 4) (fields ++ drop at bytes) ≡ drop (at + 4) bytes = ap (λ n. drop (n + 4) (fields ++ drop at bytes)) (sym long) ∙ drop-append-add fields (drop at bytes) 4 ∙ drop-drop 4 at bytes in
    ap (λ f. f ++ (part ++ drop (at + 4) (fields ++ drop at bytes))) before ∙ ap (λ r. fields ++ (part ++ r)) behind ∙ sym (append_assoc fields part (drop (at + 4) bytes))

-- the length and the head
pub front_put : (b b0 b1 b2 b3 b4 : List ℕ) (n : ℕ) (head : Head) → b0 ≡ with_u32 0 (counted n) b → b1 ≡ with_u32 4 head.errno b0 → b2 ≡ with_u32 8 head.x b1 → b3 ≡ with_u32 12 head.y b2
    → b4 ≡ with_u32 16 head.z b3 → b4 ≡ front n head ++ drop 20 b
front_put b b0 b1 b2 b3 b4 n head is0 is1 is2 is3 is4 =
    let f0 = little_bytes 4 (counted n) in
    let f1 = f0 ++ little_bytes 4 head.errno in
    let f2 = f1 ++ little_bytes 4 head.x in
    let f3 = f2 ++ little_bytes 4 head.y in
    let at4 : b0 ≡ f0 ++ drop 4 b = is0 ∙ one_more 0 (counted n) [] b refl in
    let at8 : b1 ≡ f1 ++ drop 8 b = is1 ∙ ap (with_u32 4 head.errno) at4 ∙ one_more 4 head.errno f0 b refl in
    let at12 : b2 ≡ f2 ++ drop 12 b = is2 ∙ ap (with_u32 8 head.x) at8 ∙ one_more 8 head.x f1 b refl in
    let at16 : b3 ≡ f3 ++ drop 16 b = is3 ∙ ap (with_u32 12 head.y) at12 ∙ one_more 12 head.y f2 b refl in
    is4 ∙ ap (with_u32 16 head.z) at16 ∙ one_more 16 head.z f3 b refl

-- nothing stands behind a front that was cut to its length
pub emptied : (n : ℕ) (bytes : List ℕ) → drop n (take n bytes) ≡ []
emptied n bytes = drop_of_length-le (take n bytes) (omega (arith, length-take n bytes))

-- what was written behind a front, up to the end
pub written : (n k : ℕ) (bytes part : List ℕ) → n ≤ length bytes → k ≡ length bytes - n → drop n (put_mid n k bytes part) ≡ part
written n k bytes part long all =
    let rest : drop k (drop n bytes) ≡ [] = drop_of_length-le (drop n bytes) (omega (arith, length-drop n bytes)) in
    ap (λ m. drop m (put_mid n k bytes part)) (sym (length-take-le n bytes long)) ∙ drop-append_seam (take n bytes) (part ++ drop k (drop n bytes)) ∙ ap (λ behind. part ++ behind) rest ∙ append-nil part

-- a front with what stands behind it
pub whole_front : (head : Head) (bytes : List ℕ) (whole : Bool) → 20 ≤ length bytes
    → front (length bytes - 4) head ++ drop 20 bytes ≡ bytes_of_reply (record { head = head; payload = drop 20 bytes; is_whole = whole })
whole_front head bytes whole long =
    let count : length bytes - 4 ≡ 16 + length (drop 20 bytes) = omega (arith, length-drop 20 bytes) in
    ap (λ n. front n head ++ drop 20 bytes) count

clash : {X : Type 0} → false ≡ true → X
clash h = cc

-- bytes that were put behind others, where they found room
pub put_behind : (n : ℕ) (bytes more : List ℕ) (whole put : Bool) → n ≤ length bytes → (whole && put) ≡ true
    → (whole ≡ true) × (drop n (if put then bytes ++ more else bytes) ≡ drop n bytes ++ more)
put_behind n bytes more true true long is = (refl, drop-append-le n bytes more long)
put_behind n bytes more true false long is = clash is
put_behind n bytes more false put long is = clash is

-- a front stays there
pub front_kept : (n : ℕ) (bytes more : List ℕ) (put : Bool) → n ≤ length bytes → n ≤ length (if put then bytes ++ more else bytes)
front_kept n bytes more true long = omega (arith, length-append bytes more)
front_kept n bytes more false long = long

-- nothing was put
pub puts_none : (reply : ReplyData) → Puts reply reply []
puts_none reply = record { head = refl; behind = λ whole. (whole, sym (append-nil reply.payload)) }

-- one after another
pub puts_both : (old between new : ReplyData) (first second : List ℕ) → Puts old between first → Puts between new second → Puts old new (first ++ second)
puts_both old between new first second one two = record {
  head = two.head ∙ one.head;
  behind = λ whole.
      let later = two.behind whole in
      let before = one.behind later.0 in
      (before.0, later.1 ∙ ap (λ bytes. bytes ++ second) before.1 ∙ append_assoc old.payload first second);
}

-- what was put in a reply without a payload is its payload
pub says : (old new : ReplyData) (head : Head) (bytes : List ℕ) → old ≡ record (bare 0) { head = head } → Puts old new bytes → Says new head bytes
says old new head bytes is put = record {
  head = put.head ∙ ap (λ (reply : ReplyData). reply.head) is;
  payload = λ whole. (put.behind whole).1 ∙ ap (λ (reply : ReplyData). reply.payload ++ bytes) is;
}

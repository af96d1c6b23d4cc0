-- An entry where it stands in an input, and in the bytes from there on. Assumes nothing.
use Rattle.std.proofs.Common.{◌≡◌, ℕ, ◌+◌, ◌-◌, ◌*◌, ◌<◌, ◌≤◌, Bool, true, false, cond, List, length, length-drop, take, drop, Some, None, Option, MatchOption, slice_index, sym, unwrap_or, ap, ◌∙◌, w32, to_z, lit<, arith}
use Rattle.std.proofs.lemmas.List.{get_or-drop, get_or-take, drop-drop, take_all}
use Rattle.number.specs.Bytes.{word_at, fraction_at}
use Rattle.program.specs.Input.{entry_by, start, rest_of, is_entry, line_of, kind_of, entry_of}
use Rattle.program.specs.Refusals.{form_refusal}

-- bytes past the first m, and the first eight bytes
module _ (bs : List ℕ) where
  word_past : (m k : ℕ) → word_at (drop m bs) k ≡ word_at bs (m + k)
  word_past m k = λ i. get_or-drop m bs k 0 i + at 1 i * 256 + at 2 i * 65536 + at 3 i * 16777216
    where
      at : (j : ℕ) → slice_index (drop m bs) (k + j) ≡ slice_index bs (m + k + j)
      at j = let e : m + (k + j) ≡ m + k + j = omega arith in get_or-drop m bs (k + j) 0 ∙ ap (λ n. slice_index bs n) e

  pub fraction_past : (m k : ℕ) → fraction_at (drop m bs) k ≡ fraction_at bs (m + k)
  fraction_past m k =
      let e : m + (k + 4) ≡ m + k + 4 = omega arith in
      λ i. record { p = to_z w32 (word_past m k i); q = (word_past m (k + 4) ∙ ap (λ n. word_at bs n) e) i }

  pub fraction_first : fraction_at (take 8 bs) 0 ≡ fraction_at bs 0
  fraction_first =
      λ i. record {
        p = to_z w32 (at 0 (lit< tt) i + at 1 (lit< tt) i * 256 + at 2 (lit< tt) i * 65536 + at 3 (lit< tt) i * 16777216);
        q = at 4 (lit< tt) i + at 5 (lit< tt) i * 256 + at 6 (lit< tt) i * 65536 + at 7 (lit< tt) i * 16777216;
      }
    where
      at : (j : ℕ) → j < 8 → slice_index (take 8 bs) j ≡ slice_index bs j
      at j h = get_or-take 8 bs j 0 h

-- the first two bytes, the eight after them, and the eight after those
module _ (bs two lower upper r s : List ℕ) (a : two ≡ take 2 bs) (b : r ≡ drop 2 bs) (c : lower ≡ take 8 r) (d : s ≡ drop 8 r) (e : upper ≡ take 8 s) where
  pub kind_read : slice_index two 1 ≡ slice_index bs 1
  kind_read = ap (λ x. slice_index x 1) a ∙ get_or-take 2 bs 1 0 (lit< tt)

  pub lower_read : fraction_at lower 0 ≡ fraction_at bs 2
  lower_read = ap (λ x. fraction_at x 0) (c ∙ ap (λ x. take 8 x) b) ∙ fraction_first (drop 2 bs) ∙ fraction_past bs 2 0

  pub upper_read : fraction_at upper 0 ≡ fraction_at bs 10
  upper_read = ap (λ x. fraction_at x 0) (e ∙ ap (λ x. take 8 x) (d ∙ ap (λ x. drop 8 x) b ∙ drop-drop 8 2 bs)) ∙ fraction_first (drop 10 bs) ∙ fraction_past bs 10 0

-- the entry i, where the bytes from there on are these
module _ (bs rest : List ℕ) (i : ℕ) (at : rest ≡ rest_of bs i) where
  pub form_kept : is_entry rest ≡ true → form_refusal bs i ≡ None
  form_kept h =
      let a : is_entry (rest_of bs i) ≡ true = ap is_entry (sym at) ∙ h in
      let e : slice_index (rest_of bs i) 1 ≡ kind_of bs i = get_or-drop (start i) bs 1 0 in
      let l : length (rest_of bs i) ≡ length bs - start i = length-drop (start i) bs in
      grind arith

  pub line_read : slice_index rest 0 ≡ line_of bs i
  line_read =
      let e : start i + 0 ≡ start i = omega arith in
      ap (λ l. slice_index l 0) at ∙ get_or-drop (start i) bs 0 0 ∙ ap (λ n. slice_index bs n) e

  pub entry_read : entry_by (slice_index rest 1) (fraction_at rest 2) (fraction_at rest 10) ≡ entry_of bs i
  entry_read =
      let k = ap (λ l. slice_index l 1) at ∙ get_or-drop (start i) bs 1 0 in
      let l = ap (λ l. fraction_at l 2) at ∙ fraction_past bs (start i) 2 in
      let u = ap (λ l. fraction_at l 10) at ∙ fraction_past bs (start i) 10 in
      λ j. entry_by (k j) (l j) (u j)

  pub rest_left : (s : List ℕ) → s ≡ drop 18 rest → s ≡ rest_of bs (i + 1)
  rest_left s e =
      let h : start i + 18 ≡ start (i + 1) = omega arith in
      e ∙ ap (λ l. drop 18 l) at ∙ drop-drop 18 (start i) bs ∙ ap (λ n. drop n bs) h

pub known : {A : Type 0} {x y : A} (b : Bool) → Some y ≡ cond b (Some x) None → y ≡ x
known {x} {y} true e = ap (λ o. unwrap_or o y) e
known false e = absurd (let z : ◌≡◌ {A = ℕ} 0 1 = cc in omega arith)

pub from_unwrap_or : {A : Type 0} (now : A → List ℕ) (o : Option A) (d : A) (n : ℕ) (N : Type 0) (P : A → Type 0) → MatchOption o N P → (N → length (now d) ≤ n) → ((x : A) → P x → now x ≡ take n (now d)) → now (unwrap_or o d) ≡ take n (now d)
from_unwrap_or now None d n N P h k l = sym (take_all n (now d) (k h))
from_unwrap_or now (Some x) d n N P h k l = l x h

-- The constants and the instructions of a file, in the chunks that a sheet holds. Assumes nothing.
use Rattle.std.proofs.Common.{◌≡◌, ℕ, zero, suc, ◌+◌, ◌-◌, ◌*◌, ◌<◌, ◌≤◌, List, ◌∷◌, length, take, drop, get_or, to_z, refl, sym, ap, ◌∙◌, lit<, arith}
use native.Mathlib.Numerals.{unary_clauses}
use Rattle.std.specs.Int.{w32}
use Rattle.std.specs.Simd.{first_chunks}
use Rattle.std.proofs.lemmas.List.{get_or-take, get_or-drop, drop-drop}
use Rattle.sheet.specs.Operations.{operation_of}
use Rattle.sheet.specs.Files.{half_at, word_at, fraction_at, operation_at, argument_at, constant_distance_of, instruction_distance_of, constants_start, instructions_start, constant_count, instruction_count, constants_in, instructions_in, constant}

module _ {X : Type 0} (n : ℕ) where
  length_chunks : (k : ℕ) (xs : List X) → length (first_chunks n k xs) ≡ k
  length_chunks zero xs = refl
  length_chunks (suc k) xs = ap suc (length_chunks k (drop n xs))

  pub take_chunks : (k m : ℕ) (xs : List X) → k ≤ m → take k (first_chunks n m xs) ≡ first_chunks n k xs
  take_chunks zero m xs h = refl
  take_chunks (suc k) zero xs h = absurd (omega arith)
  take_chunks (suc k) (suc m) xs h = ap (λ ys. take n xs ∷ ys) (take_chunks k m (drop n xs) (omega arith))

  pub chunk : (k i : ℕ) (xs : List X) (d : List X) → i < k → get_or (first_chunks n k xs) i d ≡ take n (drop (n * i) xs)
  chunk zero i xs d h = absurd (omega arith)
  chunk (suc k) zero xs d h = simp unary_clauses refl
  chunk (suc k) (suc i) xs d h = let e : n + n * i ≡ n * suc i = grind arith in chunk k i (drop n xs) d (omega arith) ∙ ap (take n) (drop-drop (n * i) n xs) ∙ ap (λ m. take n (drop m xs)) e

-- an element of a chunk, where it stands
in_chunk : {X : Type 0} (n k i j at m : ℕ) (xs : List X) (d : List X) (z : X) → i < k → j < n → m ≡ at + n * i + j → get_or (get_or (first_chunks n k (drop at xs)) i d) j z ≡ get_or xs m z
in_chunk n k i j at m xs d z h g e =
    let e : at + (n * i + j) ≡ m = omega arith in
    ap (λ ys. get_or ys j z) (chunk n k i (drop at xs) d h)
    ∙ get_or-take n (drop (n * i) (drop at xs)) j z g
    ∙ get_or-drop (n * i) (drop at xs) j z
    ∙ get_or-drop at xs (n * i + j) z
    ∙ ap (λ m. get_or xs m z) e

word_same : (xs ys : List ℕ) (i j : ℕ) → get_or xs i 0 ≡ get_or ys j 0 → get_or xs (i + 1) 0 ≡ get_or ys (j + 1) 0 → get_or xs (i + 2) 0 ≡ get_or ys (j + 2) 0 → get_or xs (i + 3) 0 ≡ get_or ys (j + 3) 0 → word_at xs i ≡ word_at ys j
word_same xs ys i j a b c d = cc

half_same : (xs ys : List ℕ) (i j : ℕ) → get_or xs i 0 ≡ get_or ys j 0 → get_or xs (i + 1) 0 ≡ get_or ys (j + 1) 0 → half_at xs i ≡ half_at ys j
half_same xs ys i j a b = cc

module _ (bs : List ℕ) (d : List ℕ) where
  constant_read : (c : ℕ) → c < constant_count bs → fraction_at (get_or (constants_in bs) c d) 0 ≡ constant bs c
  constant_read c h =
      let at = constants_start bs in
      let i = at + 8 * c in
      let b = λ (j m : ℕ) (g : j < 8) (e : m ≡ i + j). in_chunk 8 (constant_count bs) c j at m bs d 0 h g e in
      let xs = get_or (constants_in bs) c d in
      let p = word_same xs bs 0 i (b 0 i (lit< tt) (omega arith)) (b 1 (i + 1) (lit< tt) refl) (b 2 (i + 2) (lit< tt) refl) (b 3 (i + 3) (lit< tt) refl) in
      let q = word_same xs bs 4 (i + 4) (b 4 (i + 4) (lit< tt) refl) (b 5 (i + 4 + 1) (lit< tt) (omega arith)) (b 6 (i + 4 + 2) (lit< tt) (omega arith)) (b 7 (i + 4 + 3) (lit< tt) (omega arith)) in
      λ t. record { p = to_z w32 (p t); q = q t }

  byte_read : (i : ℕ) → i < instruction_count bs → get_or (get_or (instructions_in bs) i d) 0 0 ≡ get_or bs (instructions_start bs + 2 * i) 0
  byte_read i h = in_chunk 2 (instruction_count bs) i 0 (instructions_start bs) _ bs d 0 h (lit< tt) (omega arith)

  argument_read : (i : ℕ) → i < instruction_count bs → get_or (get_or (instructions_in bs) i d) 1 0 ≡ argument_at bs i
  argument_read i h = in_chunk 2 (instruction_count bs) i 1 (instructions_start bs) _ bs d 0 h (lit< tt) refl

-- as a sheet holds them
module _ (bs : List ℕ) (ks : List (List ℕ)) (laid : ks ≡ constants_in bs) where
  pub constants_count : length ks ≡ constant_count bs
  constants_count = ap length laid ∙ length_chunks 8 _ _

  pub constant_held : (c : ℕ) (d : List ℕ) → c < constant_count bs → fraction_at (get_or ks c d) 0 ≡ constant bs c
  constant_held c d h = ap (λ xs. fraction_at (get_or xs c d) 0) laid ∙ constant_read bs d c h

module _ (bs : List ℕ) (ps : List (List ℕ)) (laid : ps ≡ instructions_in bs) where
  pub instructions_count : length ps ≡ instruction_count bs
  instructions_count = ap length laid ∙ length_chunks 2 _ _

  pub operation_held : (i : ℕ) (d : List ℕ) → i < instruction_count bs → operation_of (get_or (get_or ps i d) 0 0) ≡ operation_at bs i
  operation_held i d h = ap operation_of (ap (λ xs. get_or (get_or xs i d) 0 0) laid ∙ byte_read bs d i h)

  pub argument_held : (i : ℕ) (d : List ℕ) → i < instruction_count bs → get_or (get_or ps i d) 1 0 ≡ argument_at bs i
  argument_held i d h = ap (λ xs. get_or (get_or xs i d) 1 0) laid ∙ argument_read bs d i h

-- the trailer is the last twelve bytes
module _ (bs : List ℕ) (h : 12 ≤ length bs) where
  in_trailer : (j m : ℕ) → m ≡ length bs - 12 + j → get_or (drop (length bs - 12) bs) j 0 ≡ get_or bs m 0
  in_trailer j m e = get_or-drop (length bs - 12) bs j 0 ∙ ap (λ n. get_or bs n 0) (sym e)

  pub distances_read : (word_at (drop (length bs - 12) bs) 0 ≡ constant_distance_of bs) × (word_at (drop (length bs - 12) bs) 4 ≡ instruction_distance_of bs)
  unfolding constant_distance_of instruction_distance_of
  distances_read =
      let b = in_trailer in (
        word_same (drop (length bs - 12) bs) bs 0 (length bs - 12) (b 0 _ (omega arith)) (b 1 _ refl) (b 2 _ refl) (b 3 _ refl),
        word_same (drop (length bs - 12) bs) bs 4 (length bs - 8) (b 4 _ (omega arith)) (b 5 _ (omega arith)) (b 6 _ (omega arith)) (b 7 _ (omega arith)),
      )

  pub counts_read : (half_at (drop (length bs - 12) bs) 8 ≡ constant_count bs) × (half_at (drop (length bs - 12) bs) 10 ≡ instruction_count bs)
  unfolding constant_count instruction_count
  counts_read =
      let b = in_trailer in (
        half_same (drop (length bs - 12) bs) bs 8 (length bs - 4) (b 8 _ (omega arith)) (b 9 _ (omega arith)),
        half_same (drop (length bs - 12) bs) bs 10 (length bs - 2) (b 10 _ (omega arith)) (b 11 _ (omega arith)),
      )

-- The promises hold on every ordered scale. Assumes nothing.
--     beside       what a new pad has and accepted calls keep holds after every run
--     promises     by it: of hand workings, of rivals and of other pads
use Rattle.std.proofs.Common.{◌≡◌, ℤ, Some, None, Option, sym, refl, ap, ◌∙◌, subst, ap₂, subst₂}
use Rattle.fault.specs.declared.Refusal.{Refusal}
use Rattle.number.specs.Number.{Number}
use Rattle.number.specs.Place.{Place}
use Rattle.scale.specs.Scale.{Ordered}
use Rattle.range.specs.declared.entry.Entry.{Entry}
use Rattle.range.specs.declared.entry.Entry.TheVariants.{Blank, Bounds}
use Rattle.range.specs.declared.range.Range.{Range}
use Rattle.range.specs.Entries.{Admitted}
use Rattle.range.specs.Held.{Holds}
use Rattle.range.specs.Truths.{Allows}
use Rattle.sheet.specs.Held.{instructions_of}
use Rattle.pad.specs.declared.board.Board.{Board}
use Rattle.pad.specs.Admission.{enter_refusal}
use Rattle.pad.specs.Boards.{fresh, with_line}
use Rattle.pad.specs.Calls.{Call, enter, work, show_line, show_flag, wipe, Answer, refusal, refusal_at, Accepted, DoesBy}
use Rattle.pad.specs.Hand.{Spots, nothing_yet, Picks, HandDoes}
use Rattle.pad.specs.Promises.{Follows, Beside, new, next, Agrees, LiesWithin, StandsFor, Matching, same, entries, SideBySide, RefuseAlike, Promises}
use Rattle.pad.specs.Rival.{Wider, loosest}
use Rattle.pad.specs.Working.{Reading, tightest, Works}
use Rattle.pad.proofs.Laws.{answer_tells}
use Rattle.pad.proofs.Zip.{All, none, some, all_some, all_map, there, missing, neither, both, zip_set, zip_replicate, agreeing_at, rel_at, same_set}
use Rattle.pad.proofs.Simulation.{Boards, Looser, works}
use Rattle.pad.proofs.Enclosing.{hull_encloses, rival_looser, pad_looser}
use Rattle.pad.proofs.ByHand as ByHand
use Rattle.pad.proofs.ByHand.{BoardHas}

-- ---- runs
module _ {p : ℤ → Place} {H : Type 0} {start : H} {Acts : Call → H → H → Type 0} (R : Board → H → Type 0) (first : R fresh start)
    (accepted : (call : Call) (ans : Answer) (b c : Board) (h k : H) → Accepted p call b ans c → Acts call h k → R b h → R c k) where
  -- a call that is refused changes nothing
  called : (f : Option Refusal) (call : Call) (ans : Answer) (b c : Board) (h k : H) → DoesBy p f call b ans c → Follows Acts f call h k → R b h → R c k
  called (Some g) call ans b c h k w v r = subst₂ R (sym w.1) (sym v) r
  called None call ans b c h k w v r = accepted call ans b c h k w v r

  beside : {b : Board} {h : H} → Beside p start Acts b h → R b h
  beside new = first
  beside (next {b} {c} {h} {k} call ans run does follows) = called (refusal_at call b) call ans b c h k does follows (beside run)

-- ---- hand workings
picks : (e : Entry) {o : Option Number} → Picks e o → All (Admitted e) o
picks Blank w = missing w
picks (Bounds l u) w = there w.1 w.2

module _ (p : ℤ → Place) where
  nothing_had : BoardHas p fresh nothing_yet
  nothing_had = record { lines = zip_replicate 32 None None none; flags = zip_replicate 32 None None none }

  hand_accepted : (call : Call) (ans : Answer) (b c : Board) (h k : Spots) → Accepted p call b ans c → HandDoes call h k → BoardHas p b h → BoardHas p c k
  hand_accepted (enter a e) ans b c h k w v r =
      subst₂ (BoardHas p) (sym w.3) (sym v.2) (record { lines = zip_set r.lines a (some (all_map (hull_encloses w.1).all (picks e v.1))); flags = r.flags })
  hand_accepted (work s m n) ans b c h k w v r = ByHand.works p (instructions_of s) w.1 v r
  hand_accepted (show_line a) ans b c h k w v r = subst₂ (BoardHas p) (sym w.5) (sym v) r
  hand_accepted (show_flag a) ans b c h k w v r = subst₂ (BoardHas p) (sym w.3) (sym v) r
  hand_accepted wipe ans b c h k w v r = subst₂ (BoardHas p) (sym w.1) (sym v) nothing_had

  agrees : {b : Board} {h : Spots} → BoardHas p b h → Agrees p b h
  agrees r = record {
    lines = λ a l x e f. all_some (subst (All (Holds p l)) f (agreeing_at r.lines a e));
    flags = λ a v t e f. all_some (subst (All (Allows v)) f (agreeing_at r.flags a e));
  }

-- ---- rivals and other pads
-- what somebody does who puts by σ: a rival, by `loosest`; another pad, by `tightest`
abbrev Acts : Reading → Call → Board → Board → Type 0
Acts σ (enter a e) b c = (f : Entry) × Wider a e f × (r : Range) × σ.Put (Admitted f) r × (c ≡ with_line b a r)
Acts σ (work s m n) b c = Works σ (instructions_of s) b c
Acts σ (show_line a) b c = c ≡ b
Acts σ (show_flag a) b c = c ≡ b
Acts σ wipe b c = c ≡ fresh

module _ {p : ℤ → Place} (σ : Reading) (L : Looser (tightest p) σ) where
  abbrev Within : Board → Board → Type 0
  Within = Boards p σ.places

  nothing_set : Within fresh fresh
  nothing_set = record { lines = zip_replicate 32 None None neither; flags = zip_replicate 32 None None neither }

  accepted : (call : Call) (ans : Answer) (b b' c c' : Board) → Accepted p call b ans b' → Acts σ call c c' → Within b c → Within b' c'
  accepted (enter a e) ans b b' c c' w v r =
      subst₂ Within (sym w.3) (sym v.4) (record { lines = zip_set r.lines a (both (L.put v.1.contains w.1 v.3)); flags = r.flags })
  accepted (work s m n) ans b b' c c' w v r = works (tightest p) σ L (instructions_of s) w.1 v r
  accepted (show_line a) ans b b' c c' w v r = subst₂ Within (sym w.5) (sym v) r
  accepted (show_flag a) ans b b' c c' w v r = subst₂ Within (sym w.3) (sym v) r
  accepted wipe ans b b' c c' w v r = subst₂ Within (sym w.1) (sym v) nothing_set

  acts_within : {b c : Board} → Beside p fresh (Acts σ) b c → Within b c
  acts_within = beside Within nothing_set accepted

lies_within : (p q : ℤ → Place) {b c : Board} → Boards p q b c → LiesWithin p q b c
lies_within p q r = record {
  same_lines = same_set r.lines;
  same_flags = same_set r.flags;
  lines = λ a l m e f. rel_at r.lines a e f;
  flags = λ a v w e f. rel_at r.flags a e f;
}

-- ---- another pad
-- it accepts as one who puts by `tightest` does
pad_acts : (q : ℤ → Place) {call call' : Call} → Matching call call' → (ans : Answer) (b c c' : Board) → refusal_at call b ≡ None → Accepted q call' c ans c' → Acts (tightest q) call c c'
pad_acts q (same (enter a e)) ans b c c' n w = (e, record { accepted = n; contains = λ x k. k }, w.0, w.1, w.3)
pad_acts q (same (work s m k)) ans b c c' n w = w.1
pad_acts q (same (show_line a)) ans b c c' n w = w.5
pad_acts q (same (show_flag a)) ans b c c' n w = w.3
pad_acts q (same wipe) ans b c c' n w = w.1
pad_acts q (entries a e f m) ans b c c' n w = (f, subst (λ g. StandsFor g a e f) n m, w.0, w.1, w.3)

pad_follows : (q : ℤ → Place) (f : Option Refusal) {call call' : Call} → Matching call call' → (ans : Answer) (b c c' : Board) → refusal_at call b ≡ f → DoesBy q f call' c ans c' → Follows (Acts (tightest q)) f call c c'
pad_follows q (Some g) m ans b c c' n w = w.1
pad_follows q None m ans b c c' n w = pad_acts q m ans b c c' n w

-- both break the same rule, or neither breaks one
same_refusal : {p q : ℤ → Place} {call call' : Call} {b c : Board} → Matching call call' → Boards p q b c → refusal_at call b ≡ refusal_at call' c
same_refusal (same call) r = ap₂ (refusal call) (same_set r.lines) (same_set r.flags)
same_refusal (entries a e f m) r = by (enter_refusal a e) refl m
  where
    by : (g : Option Refusal) → enter_refusal a e ≡ g → StandsFor g a e f → enter_refusal a e ≡ enter_refusal a f
    by (Some _) k s = ap (enter_refusal a) (sym s)
    by None k s = k ∙ sym s.accepted

pad_beside : {p q : ℤ → Place} → Looser (tightest p) (tightest q) → {b c : Board} → SideBySide p q b c → Beside p fresh (Acts (tightest q)) b c
pad_beside L SideBySide.new = new
pad_beside {q} L (SideBySide.next {b} {b'} {c} {c'} call call' ans ans' run m does does') =
    let s = pad_beside L run in
    next call ans s does (pad_follows q (refusal_at call b) m ans' b c c' refl (subst (λ f. DoesBy q f call' c ans' c') (sym (same_refusal m (acts_within (tightest q) L s))) does'))

refuse_alike : {p q : ℤ → Place} {b c : Board} → Boards p q b c → RefuseAlike p q b c
refuse_alike {p} {q} {b} {c} r call call' ans ans' b' c' m does does' =
    answer_tells p (refusal_at call b) call b ans b' does ∙ same_refusal m r ∙ sym (answer_tells q (refusal_at call' c) call' c ans' c' does')

pub promises : (p : ℤ → Place) → Ordered p → Promises p
promises p O = record {
  by_hand = λ b h run. agrees p (beside (BoardHas p) (nothing_had p) (hand_accepted p) run);
  rivals = λ q _ C b c run. lies_within p q (acts_within (loosest q) (rival_looser O C) run);
  pads = λ q _ C b c run.
      let L = pad_looser O C in
      let r = acts_within (tightest q) L (pad_beside L run) in
      (lies_within p q r, refuse_alike r);
}

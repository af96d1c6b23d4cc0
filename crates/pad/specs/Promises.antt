-- What holds after each call of every run of a pad: of hand workings, of rivals and of other pads. Assumes nothing.
--     Beside            a run of a pad, with somebody beside it who acts where the pad accepts and not where it declines
--     SideBySide      two pads that take the same calls, but for wider entries
--     Promises          the promises, on a scale with these places
use Rattle.std.specs.Prelude.{◌≡◌, ℕ, Bool, ℤ, Some, None, Option, slice_index_or}
use Rattle.fault.specs.declared.Refusal.{Refusal}
use Rattle.number.specs.Number.{Number}
use Rattle.number.specs.Place.{Place}
use Rattle.scale.specs.Scale.{Ordered, Coarser}
use Rattle.range.specs.declared.entry.Entry.{Entry}
use Rattle.range.specs.declared.range.Range.{Range}
use Rattle.range.specs.declared.verdict.Verdict.{Verdict}
use Rattle.range.specs.Held.{Holds}
use Rattle.range.specs.Truths.{Allows}
use Rattle.pad.specs.declared.board.Board.{Board}
use Rattle.pad.specs.Admission.{enter_refusal}
use Rattle.pad.specs.Boards.{fresh, line_at, flag_at, lines_set, flags_set}
use Rattle.pad.specs.Calls.{Call, enter, Answer, done, line_shown, flag_shown, refused, refusal_at, Does}
use Rattle.pad.specs.Hand.{Spots, nothing_yet, HandDoes}
use Rattle.pad.specs.Rival.{Wider, RivalDoes}

-- nothing changes where the pad declines
abbrev pub Follows : {H : Type 0} → (Call → H → H → Type 0) → Option Refusal → Call → H → H → Type 0
Follows Acts (Some f) call h k = k ≡ h
Follows Acts None call h k = Acts call h k

-- a new pad, then any calls; `b` is its board after them, and `h` what somebody beside it has, from `start` on
pub data Beside (p : ℤ → Place) {H : Type 0} (start : H) (Acts : Call → H → H → Type 0) : Board → H → Type 0 where
  new : Beside p start Acts fresh start
  next : {b c : Board} {h k : H} (call : Call) (ans : Answer) → Beside p start Acts b h → Does p call b ans c → Follows Acts (refusal_at call b) call h k → Beside p start Acts c k

-- each number that a hand working has for a set line lies in it, and each truth that it has for a set flag is allowed
pub record Agrees (p : ℤ → Place) (b : Board) (h : Spots) : Type 0 where
  pub lines : (a : ℕ) (r : Range) (x : Number) → line_at b a ≡ Some r → slice_index_or h.lines a None ≡ Some x → Holds p r x
  pub flags : (a : ℕ) (v : Verdict) (t : Bool) → flag_at b a ≡ Some v → slice_index_or h.flags a None ≡ Some t → Allows v t

-- the same lines and flags are set; each line of the second holds what that of the first holds, and each flag allows what that of the first allows
pub record LiesWithin (p q : ℤ → Place) (b c : Board) : Type 0 where
  pub same_lines : lines_set b ≡ lines_set c
  pub same_flags : flags_set b ≡ flags_set c
  pub lines : (a : ℕ) (r s : Range) → line_at b a ≡ Some r → line_at c a ≡ Some s → (x : Number) → Holds p r x → Holds q s x
  pub flags : (a : ℕ) (v w : Verdict) → flag_at b a ≡ Some v → flag_at c a ≡ Some w → (t : Bool) → Allows v t → Allows w t

-- a wider entry stands only for one that is accepted
abbrev pub StandsFor : Option Refusal → ℕ → Entry → Entry → Type 0
StandsFor (Some f) a e f' = f' ≡ e
StandsFor None a e f' = Wider a e f'

pub data Matching : Call → Call → Type 0 where
  same : (call : Call) → Matching call call
  entries : (a : ℕ) (e f : Entry) → StandsFor (enter_refusal a e) a e f → Matching (enter a e) (enter a f)

-- two new pads, then matching calls; `b` and `c` are their boards after them
pub data SideBySide (p q : ℤ → Place) : Board → Board → Type 0 where
  new : SideBySide p q fresh fresh
  next : {b b' c c' : Board} (call call' : Call) (ans ans' : Answer) → SideBySide p q b c → Matching call call' → Does p call b ans b' → Does q call' c ans' c' → SideBySide p q b' c'

abbrev pub refusal_in : Answer → Option Refusal
refusal_in done = None
refusal_in (line_shown o) = None
refusal_in (flag_shown v) = None
refusal_in (refused f) = Some f

-- the next of matching calls is accepted by both pads, or refused by both with the same layer, number and place
abbrev pub RefuseAlike : (ℤ → Place) → (ℤ → Place) → Board → Board → Type 0
RefuseAlike p q b c = (call call' : Call) (ans ans' : Answer) (b' c' : Board) → Matching call call' → Does p call b ans b' → Does q call' c ans' c' → refusal_in ans ≡ refusal_in ans'

pub record Promises (p : ℤ → Place) : Type 0 where
  -- whatever a hand working picks
  pub by_hand : (b : Board) (h : Spots) → Beside p nothing_yet HandDoes b h → Agrees p b h
  -- every rival, on every coarser ordered scale
  pub rivals : (q : ℤ → Place) → Ordered q → Coarser p q → (b c : Board) → Beside p fresh (RivalDoes q) b c → LiesWithin p q b c
  -- every other pad, on every coarser scale
  pub pads : (q : ℤ → Place) → Ordered q → Coarser p q → (b c : Board) → SideBySide p q b c → LiesWithin p q b c × RefuseAlike p q b c

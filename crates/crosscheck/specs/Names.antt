-- The names under which the trial prints what it counted. Assumes nothing.
use Rattle.std.specs.Prelude.{ℕ, List, codes, if◌then◌else◌}
use Rattle.crosscheck.specs.declared.separate.operation.Operation.{Operation}
use Rattle.crosscheck.specs.declared.separate.operation.Operation.TheVariants.{Line, Constant, Keep, Plus, Minus, Times, Over, Parted, Negate, Square, Lesser, Greater, Join, Meet, Again, Less, AtMost, Equal, And, Or, Not, Pick, Flag}
use Rattle.crosscheck.specs.declared.separate.truths.Truths.{Truths}
use Rattle.crosscheck.specs.declared.tally.Kind.{Kind}
use Rattle.crosscheck.specs.declared.tally.Kind.TheVariants.{Blank, Bounded, UnboundedBelow, UnboundedAbove, Unbounded}
use Rattle.crosscheck.specs.declared.tally.Purpose.{Purpose}
use Rattle.crosscheck.specs.declared.tally.Purpose.TheVariants.{Working, Entering, Showing, Dividing}

abbrev pub operation_name : Operation → List ℕ
operation_name Line = codes "line"
operation_name Constant = codes "constant"
operation_name Keep = codes "keep"
operation_name Plus = codes "plus"
operation_name Minus = codes "minus"
operation_name Times = codes "times"
operation_name Over = codes "over"
operation_name Parted = codes "parted"
operation_name Negate = codes "negate"
operation_name Square = codes "square"
operation_name Lesser = codes "lesser"
operation_name Greater = codes "greater"
operation_name Join = codes "join"
operation_name Meet = codes "meet"
operation_name Again = codes "again"
operation_name Less = codes "less"
operation_name AtMost = codes "at most"
operation_name Equal = codes "equal"
operation_name And = codes "and"
operation_name Or = codes "or"
operation_name Not = codes "not"
operation_name Pick = codes "pick"
operation_name Flag = codes "flag"

abbrev pub truths_name : Truths → List ℕ
truths_name t =
    if t.yes
    then (if t.no then codes "open" else codes "certain")
    else (if t.no then codes "impossible" else codes "void")

abbrev pub kind_name : Kind → List ℕ
kind_name Blank = codes "blank"
kind_name Bounded = codes "bounded"
kind_name UnboundedBelow = codes "unbounded below"
kind_name UnboundedAbove = codes "unbounded above"
kind_name Unbounded = codes "unbounded"

abbrev pub purpose_name : Purpose → List ℕ
purpose_name Working = codes "working"
purpose_name Entering = codes "entering"
purpose_name Showing = codes "showing"
purpose_name Dividing = codes "a scale"

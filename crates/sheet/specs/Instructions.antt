-- The instructions of a file. Assumes nothing.
use Rattle.std.specs.Prelude.{ℕ, zero, suc, List, [], ◌∷◌, Some, None, Option}
use Rattle.number.specs.declared.Fraction.{Fraction}
use Rattle.sheet.specs.declared.instruction.Instruction.{Instruction}
use Rattle.sheet.specs.declared.instruction.Instruction.TheVariants.{Line, Constant, Keep, Plus, Minus, Times, Over, Parted, Negate, Square, Lesser, Greater, Join, Meet, Again, Less, AtMost, Equal, And, Or, Not, Pick, Flag}
use Rattle.sheet.specs.declared.operation.Operation.{Operation}
use Rattle.sheet.specs.declared.operation.Operation.TheVariants as O
use Rattle.sheet.specs.Files.{constant, operation_at, argument_at, instruction_count}

-- the instruction of an operation, its argument, and the constant that the argument stands for
abbrev pub named : Operation → ℕ → Fraction → Instruction
named O.Line a f = Line a
named O.Constant a f = Constant f
named O.Keep a f = Keep a
named O.Plus a f = Plus
named O.Minus a f = Minus
named O.Times a f = Times
named O.Over a f = Over
named O.Parted a f = Parted
named O.Negate a f = Negate
named O.Square a f = Square
named O.Lesser a f = Lesser
named O.Greater a f = Greater
named O.Join a f = Join
named O.Meet a f = Meet
named O.Again a f = Again
named O.Less a f = Less
named O.AtMost a f = AtMost
named O.Equal a f = Equal
named O.And a f = And
named O.Or a f = Or
named O.Not a f = Not
named O.Pick a f = Pick
named O.Flag a f = Flag a

-- the operation of an instruction, and the line or flag that it names, else 0
abbrev pub written : Instruction → Operation × ℕ
written (Line a) = (O.Line, a)
written (Constant f) = (O.Constant, 0)
written (Keep a) = (O.Keep, a)
written Plus = (O.Plus, 0)
written Minus = (O.Minus, 0)
written Times = (O.Times, 0)
written Over = (O.Over, 0)
written Parted = (O.Parted, 0)
written Negate = (O.Negate, 0)
written Square = (O.Square, 0)
written Lesser = (O.Lesser, 0)
written Greater = (O.Greater, 0)
written Join = (O.Join, 0)
written Meet = (O.Meet, 0)
written Again = (O.Again, 0)
written Less = (O.Less, 0)
written AtMost = (O.AtMost, 0)
written Equal = (O.Equal, 0)
written And = (O.And, 0)
written Or = (O.Or, 0)
written Not = (O.Not, 0)
written Pick = (O.Pick, 0)
written (Flag a) = (O.Flag, a)

abbrev pub operation : Instruction → Operation
operation x = (written x).0

abbrev pub with_argument : Option Operation → ℕ → Fraction → Option Instruction
with_argument None a f = None
with_argument (Some o) a f = Some (named o a f)

-- the instruction i of a file, if its operation is known
abbrev pub instruction_at : List ℕ → ℕ → Option Instruction
instruction_at bs i = with_argument (operation_at bs i) (argument_at bs i) (constant bs (argument_at bs i))

abbrev pub before : Option Instruction → List Instruction → List Instruction
before None xs = xs
before (Some x) xs = x ∷ xs

-- those that are there among the first n
unfoldable pub listed : (ℕ → Option Instruction) → ℕ → List Instruction
listed f zero = []
listed f (suc n) = before (f 0) (listed (λ i. f (suc i)) n)

-- the instructions of a file
unfoldable pub instructions : List ℕ → List Instruction
instructions bs = listed (instruction_at bs) (instruction_count bs)

-- The operations. Assumes nothing.
use Rattle.std.specs.Prelude.{ℕ, Bool, cond, List, [], ◌∷◌, Some, None, Option, ◌==◌, nat_le, nat_lt}
use Rattle.sheet.specs.declared.operation.Argument.{Argument}
use Rattle.sheet.specs.declared.operation.Argument.TheVariants.{Line as line, Constant as constant, Flag as flag, Unused as unused}
use Rattle.sheet.specs.declared.operation.Operation.{Operation}
use Rattle.sheet.specs.declared.operation.Operation.TheVariants.{Line, Constant, Keep, Plus, Minus, Times, Over, Parted, Negate, Square, Lesser, Greater, Join, Meet, Again, Less, AtMost, Equal, And, Or, Not, Pick, Flag}
use Rattle.sheet.specs.declared.operation.Shape.{Shape}

-- the ranges taken and put, then the verdicts taken and put
abbrev pub shape_by : Argument → ℕ → ℕ → ℕ → ℕ → Shape
shape_by a rt rp vt vp = record { argument = a; ranges = record { takes = rt; puts = rp }; verdicts = record { takes = vt; puts = vp } }

-- each operation's byte and shape
abbrev pub row : Operation → ℕ × Shape
row Line = (0x01, shape_by line 0 1 0 0)
row Constant = (0x02, shape_by constant 0 1 0 0)
row Keep = (0x03, shape_by line 1 0 0 0)
row Plus = (0x04, shape_by unused 2 1 0 0)
row Minus = (0x05, shape_by unused 2 1 0 0)
row Times = (0x06, shape_by unused 2 1 0 0)
row Over = (0x07, shape_by unused 2 1 0 0)
row Parted = (0x08, shape_by unused 2 2 0 0)
row Negate = (0x09, shape_by unused 1 1 0 0)
row Square = (0x0A, shape_by unused 1 1 0 0)
row Lesser = (0x0B, shape_by unused 2 1 0 0)
row Greater = (0x0C, shape_by unused 2 1 0 0)
row Join = (0x0D, shape_by unused 2 1 0 0)
row Meet = (0x0E, shape_by unused 2 1 0 0)
row Again = (0x0F, shape_by unused 1 2 0 0)
row Less = (0x10, shape_by unused 2 0 0 1)
row AtMost = (0x11, shape_by unused 2 0 0 1)
row Equal = (0x12, shape_by unused 2 0 0 1)
row And = (0x13, shape_by unused 0 0 2 1)
row Or = (0x14, shape_by unused 0 0 2 1)
row Not = (0x15, shape_by unused 0 0 1 1)
row Pick = (0x16, shape_by unused 2 1 1 0)
row Flag = (0x17, shape_by flag 0 0 1 0)

abbrev pub byte : Operation → ℕ
byte o = (row o).0

abbrev pub shape : Operation → Shape
shape o = (row o).1

abbrev pub operations : List Operation
operations = Line ∷ Constant ∷ Keep ∷ Plus ∷ Minus ∷ Times ∷ Over ∷ Parted ∷ Negate ∷ Square ∷ Lesser ∷ Greater ∷ Join ∷ Meet ∷ Again ∷ Less ∷ AtMost ∷ Equal ∷ And ∷ Or ∷ Not ∷ Pick ∷ Flag ∷ []

-- the first of the operations that has the byte
abbrev pub with_byte : ℕ → List Operation → Option Operation
with_byte b [] = None
with_byte b (o ∷ os) = cond (b == byte o) (Some o) (with_byte b os)

unfoldable pub operation_of : ℕ → Option Operation
operation_of b = with_byte b operations

-- what an argument may be on a sheet with k constants: lines and flags go to 31
abbrev pub allowed : Argument → ℕ → ℕ → Bool
allowed line k a = nat_le a 31
allowed flag k a = nat_le a 31
allowed constant k a = nat_lt a k
allowed unused k a = a == 0

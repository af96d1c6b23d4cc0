-- Laws of the operations. Assumes nothing.
use Rattle.std.proofs.Common.{◌≡◌, ℕ, ◌≤◌, Some, None, Option, refl, ap, arith}
use Rattle.number.specs.declared.Fraction.{Fraction}
use Rattle.sheet.specs.declared.operation.Operation.{Operation}
use Rattle.sheet.specs.declared.operation.Operation.TheVariants.{Line, Keep}
use Rattle.sheet.specs.Operations.{byte, shape, operation_of}
use Rattle.sheet.specs.Instructions.{named, operation, with_argument}
use Rattle.sheet.specs.Depths.{operation_in}
use Rattle.sheet.specs.Lines.{is_on, reads, keeps}

-- each operation has its own byte
pub of_byte : (o : Operation) → operation_of (byte o) ≡ Some o
unfolding operation_of
of_byte o = grind arith

pub puts_few : (o : Operation) → ((shape o).ranges.puts ≤ 2) × ((shape o).verdicts.puts ≤ 2)
puts_few o = grind arith

-- an instruction has the operation that it is named by
operation_named : (o : Operation) (a : ℕ) (f : Fraction) → operation (named o a f) ≡ o
operation_named o a f = grind arith

pub operation_with : (p : Option Operation) (a : ℕ) (f : Fraction) → operation_in (with_argument p a f) ≡ p
operation_with None a f = refl
operation_with (Some o) a f = ap (λ q. Some q) (operation_named o a f)

-- and reads or keeps the line of its argument
pub reads_named : (o : Operation) (b : ℕ) (f : Fraction) (a : ℕ) → reads (Some (named o b f)) a ≡ is_on o b Line a
reads_named o b f a = grind arith

pub keeps_named : (o : Operation) (b : ℕ) (f : Fraction) (a : ℕ) → keeps (Some (named o b f)) a ≡ is_on o b Keep a
keeps_named o b f a = grind arith

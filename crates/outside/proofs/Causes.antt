-- What follows from counts of faults that none fell.
use Rattle.std.proofs.Common.{ℕ, ◌≤◌, arith}
use Rattle.outside.specs.Causes.{Rose, Counts, NoneFell, OneRose}

-- a count that rose later has risen since before
pub rose_later : (a b c : ℕ) → a ≤ b → Rose b c → Rose a c
rose_later a b c le rose = omega (arith, le, rose)

-- and one that rose earlier has risen until later
pub rose_sooner : (a b c : ℕ) → b ≤ c → Rose a b → Rose a c
rose_sooner a b c le rose = omega (arith, le, rose)

pub one_later : (a b c : Counts) → NoneFell a b → OneRose b c → OneRose a c
one_later a b c kept one = record { file = one.file; rose = rose_later (a one.file) (b one.file) (c one.file) (kept one.file) one.rose }

pub one_sooner : (a b c : Counts) → NoneFell b c → OneRose a b → OneRose a c
one_sooner a b c kept one = record { file = one.file; rose = rose_sooner (a one.file) (b one.file) (c one.file) (kept one.file) one.rose }

pub none_fell_on : (a b c : Counts) → NoneFell a b → NoneFell b c → NoneFell a c
none_fell_on a b c first second = λ k. omega (arith, first k, second k)

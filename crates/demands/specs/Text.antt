-- The numbers that the program prints are decimal, without padding.
use Rattle.std.specs.Prelude.{ℕ}
use Rattle.text.specs.Decimal.{Decimal, decimal}

abbrev pub PrintsDecimals : Type 0
PrintsDecimals = (n : ℕ) → Decimal n (decimal n)

-- Decimals, cited. Assumes nothing.
use Rattle.text.proofs.Decimal.{decimal_right}
use Rattle.demands.specs.Text.{PrintsDecimals}

pub prints_decimals : PrintsDecimals
prints_decimals = decimal_right

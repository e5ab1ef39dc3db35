-- What the three formats are known to be: each fits a word, and binary64 and binary32 have what all functions ask. Assumes nothing.
use native.Mathlib.Omega.{arith}
use Rattle.float_format.specs.Format.{binary64, binary32, binary16}
use Rattle.float_format.specs.Width.{InWord, Wide}

pub word64 : InWord binary64
word64 = record { valid = record { some_fraction = omega arith; some_exponent = omega arith; near = omega arith }; narrow = omega arith }

pub word32 : InWord binary32
word32 = record { valid = record { some_fraction = omega arith; some_exponent = omega arith; near = omega arith }; narrow = omega arith }

pub word16 : InWord binary16
word16 = record { valid = record { some_fraction = omega arith; some_exponent = omega arith; near = omega arith }; narrow = omega arith }

pub wide64 : Wide binary64
wide64 = record { twenty_digits = omega arith; spare = omega arith; below_bias = omega arith; past_words = omega arith; few = omega arith }

pub wide32 : Wide binary32
wide32 = record { twenty_digits = omega arith; spare = omega arith; below_bias = omega arith; past_words = omega arith; few = omega arith }

-- Document 01's table of the widths, as the definitions give it: fraction bits, largest exponent field, default NaN; and the third width of
-- W-201. Claims that antt computes. Assumes nothing.
use mathlib.Core.Path.{◌≡◌, refl}
use Rattle.float_format.specs.Format.{binary64, binary32, binary16, top_field, default_nan}

pub binary64_is : (binary64.fraction ≡ 52) × (top_field binary64 ≡ 2047) × (default_nan binary64 ≡ 0x7ff8_0000_0000_0000)
binary64_is = (refl, refl, refl)

pub binary32_is : (binary32.fraction ≡ 23) × (top_field binary32 ≡ 255) × (default_nan binary32 ≡ 0x7fc0_0000)
binary32_is = (refl, refl, refl)

pub binary16_is : (binary16.fraction ≡ 10) × (top_field binary16 ≡ 31) × (default_nan binary16 ≡ 0x7e00)
binary16_is = (refl, refl, refl)

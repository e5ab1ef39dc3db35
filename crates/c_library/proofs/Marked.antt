-- Every marked case of document 01 holds of the definitions, as one claim: antt computes both sides of the whole list. Assumes nothing.
use mathlib.Core.Path.{◌≡◌, refl}
use mathlib.Core.List.{map}
use lib.Ieee.{size, span, climb}
use Rattle.float_format.specs.Format.{is_nan, is_infinite, is_zero, quieted}
use Rattle.float_format.specs.Number.{magnitude, encode, above, under}
use Rattle.float_format.specs.Rounding.{parts, whole_part, integral, lround_refusal, lround_value, nearest, rounded}
use Rattle.splitting.specs.Splitting.{modf_whole, modf_fraction}
use Rattle.scaling.specs.Scaling.{frexp_fraction, frexp_exponent, scaled, ldexp, ldexp_refusal}
use Rattle.remainder.specs.Remainder.{fmod, fmod_refusal}
use Rattle.ordering.specs.Ordering.{nextafter, nextafter_refusal}
use Rattle.c_library.specs.Marked.{Case, marked}

pub marked_cases : map (λ (c : Case). c.given) marked ≡ map (λ (c : Case). c.stated) marked
unfolding marked integral parts whole_part lround_refusal lround_value modf_whole modf_fraction frexp_fraction frexp_exponent nearest rounded scaled ldexp ldexp_refusal fmod fmod_refusal nextafter nextafter_refusal is_nan is_infinite is_zero quieted magnitude encode above under size span climb
marked_cases = refl

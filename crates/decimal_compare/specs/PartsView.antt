-- What the parts of a word stand for.
use Rattle.decimal_compare.specs.Decimal.{Numeral}
use Rattle.decimal_compare.specs.declared.parts.Parts.{Parts}

abbrev pub numeral_of_parts : Parts → Numeral
numeral_of_parts parts =
    record {
      negative = parts.negative;
      floating = parts.floating;
      whole = parts.whole.now;
      fraction = parts.fraction.now;
      exponent = parts.exponent;
    }

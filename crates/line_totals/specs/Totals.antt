-- Rules. Totals of lines: their bits and their long codes.
use Rattle.line_totals.specs.declared.Totals.{Totals}

abbrev pub no_totals : Totals
no_totals = record { bits = 0; long = 0 }

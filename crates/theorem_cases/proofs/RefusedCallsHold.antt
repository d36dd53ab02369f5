-- Every refused call, by computation. Assumes nothing.
use mathlib.Core.Path.{refl}
use Rattle.numbers.specs.Numbers.{least_from}
use Rattle.stream.specs.Headers.{header_of, kind_rules, size_rules, count_rules, parse_of}
use Rattle.stream.specs.Streams.{row_start, first_short, open_of}
use Rattle.image_region.specs.Regions.{is_outside, span_of, checked_of}
use Rattle.admission.specs.Beginnings.{region_begins, image_begins, block_begins}
use Rattle.admission.specs.Writings.{writing_begins, lossy_begins}
use Rattle.base_plan.specs.Plans.{first_amiss, plan_answer, planned_answer}
use Rattle.base_plan.specs.Records.{digits_at, decimal, end_of, number_at, is_field, is_good, start_of, holds, good_records, holders}
use Rattle.short_codes.specs.Sheets.{in_sheet, listed_answer}
use Rattle.theorem_cases.specs.RefusedCalls.{RefusedCalls}

pub refused_calls : RefusedCalls
unfolding least_from header_of kind_rules size_rules count_rules parse_of row_start first_short open_of is_outside span_of checked_of region_begins image_begins block_begins writing_begins lossy_begins first_amiss plan_answer planned_answer digits_at decimal end_of number_at is_field is_good start_of holds good_records holders in_sheet listed_answer
refused_calls =
    record {
      n1 = refl;
      n4 = refl;
      n5 = refl;
      n6 = refl;
      n7_edge = refl;
      n7_image = refl;
      n7_empty = refl;
      n8_tight = refl;
      n8_writer = refl;
      n9 = refl;
      n10_samples = refl;
      n10_records = refl;
      before_8 = refl;
      before_9 = refl;
      before_10 = refl;
      n16 = refl;
      n17 = refl;
      after_17 = refl;
      plan_16 = refl;
      plan_17 = refl;
      n18 = refl;
      n19 = refl;
      n20 = refl;
      n24_depth = refl;
      n24_k = refl;
      n24_none = refl;
      n24_long = refl;
    }

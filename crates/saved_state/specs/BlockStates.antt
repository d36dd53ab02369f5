-- Promises. The state of a block, stored and loaded.
use Rattle.std.specs.Prelude.{Bool, true, List, ℕ}
use Rattle.colour_lines.specs.ColourLines.{zero_lines}
use Rattle.image_map.specs.Places.{width_of}
use Rattle.saved_state.specs.Checkpoints.{Saved, position_in, loaded_record, loaded_lines}
use Rattle.read_block.specs.Blocks.{State}
use Rattle.read_block.specs.Records.{table, start_record, base_of}
use Rattle.read_block.specs.declared.Form.{Form}

-- what is stored of the state after a line of block b of the stream d
abbrev pub saved_of : List ℕ → ℕ → ℕ → State → Saved
saved_of d b line z = record { stream = d; block = b; line = line; at = z.at.0; records = z.records; lines = z.lines }

-- the state that the bytes s hold. Its codes and totals are counted from here on
unfoldable pub loaded_state : Form → Bool → List ℕ → List ℕ → State
loaded_state F lossless bases s =
    record {
      lines = loaded_lines (width_of F.xtrans) s (zero_lines (width_of F.xtrans));
      records = table (λ j. loaded_record lossless (start_record F.bits (base_of bases 0) j) s j) 336;
      at = record { 0 = position_in s };
      tight = true;
      long = 0;
    }

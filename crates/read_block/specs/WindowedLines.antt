-- Inside. What the functions that read a block say where of each colour only the last three lines are kept. No public contract rests on these. Assumes
-- nothing.
use Rattle.std.specs.Prelude.{Bool, true, false, cond, ◌&&◌, List, ◌≡◌, ℕ, suc, ◌+◌, ◌-◌, ◌*◌, ◌/◌, ◌≤◌, ◌<◌, ltb, length, get_or, replicate, Err, None, Ok, Result, Some, Option}
use Rattle.code.specs.declared.Place.{Place}
use Rattle.statistics.specs.declared.Record.{Record}
use Rattle.line_totals.specs.declared.Totals.{Totals}
use Rattle.line_totals.specs.declared.TightLines.{TightLines}
use Rattle.image_map.specs.Places.{width_of, Changed}
use Rattle.image_map.specs.Inside.{picture_row, in_rows, emitted_sample}
use Rattle.image_map.specs.Windows.{PassEmitted}
use Rattle.image_map.specs.declared.Part.{Part}
use Rattle.read_pass.specs.Windows.{window_plan}
use Rattle.pass_schedule.specs.Steps.{plan_of}
use Rattle.pass_steps.specs.declared.Quantisers.{Quantisers}
use Rattle.stream.specs.declared.header.FujiHeader.{FujiHeader}
use Rattle.image_region.specs.declared.Rect.{Rect}
use Rattle.admission.specs.Beginnings.{samples_needed, records_needed}
use Rattle.read_block.specs.Blocks.{State, read_line, read_from, totals_in}
use Rattle.read_block.specs.Inside.{tight_of}
use Rattle.read_block.specs.Walks.{state_at, shown_sample, Shown, shown_from, shown_lines}
use Rattle.read_block.specs.Images.{Pictured}
use Rattle.read_block.specs.Lent.{Buffers}
use Rattle.read_block.specs.WindowedImages.{window_size, PicturedWindowed}
use Rattle.read_block.specs.declared.Form.{Form}

-- ---- scratch

abbrev pub samples_in : Bool → Bool → ℕ
samples_in false xtrans = samples_needed xtrans
samples_in true xtrans = window_size xtrans

abbrev pub ScratchIn : Bool → Bool → List ℕ → List Record → Type 0
ScratchIn windowed xtrans lines records = (length lines ≡ samples_in windowed xtrans) × (length records ≡ records_needed)

abbrev pub zeros_in : Bool → Bool → List ℕ
zeros_in windowed xtrans = replicate (samples_in windowed xtrans) 0

-- ---- windows

-- line `slot` of the windows v is colour line L of the 18 lines l, with its guards, and the samples above it are those above L
pub record Latest (W L slot : ℕ) (l v : List ℕ) : Type 0 where
  pub above : (p : ℕ) → p < W → get_or l ((L - 1) * (W + 2) + (p + 1)) 0 ≡ get_or v ((slot - 1) * (W + 2) + (p + 1)) 0
  pub line : (d : ℕ) → d < W + 2 → get_or l (L * (W + 2) + d) 0 ≡ get_or v (slot * (W + 2) + d) 0

-- after i passes of a line
pub record Windows (W i : ℕ) (l v : List ℕ) : Type 0 where
  pub red : Latest W (1 + (i + 1) / 2) 2 l v
  pub green : Latest W (6 + i) 5 l v
  pub blue : Latest W (14 + i / 2) 8 l v

-- how the lines that are kept stand for the 18
abbrev pub Held : Bool → (W i : ℕ) → (l v : List ℕ) → Type 0
Held false W i l v = v ≡ l
Held true W i l v = Windows W i l v

-- ---- a line

-- the two colour lines of pass i have gone to the image, in windows
abbrev pub PassPlaced : Bool → Bool → ℕ → (tile lines : List ℕ) → Part → (n i : ℕ) → (before after : List ℕ) → Type 0
PassPlaced windowed xtrans W tile lines a n i before after =
    let P = plan_of xtrans i in
    let Q = window_plan windowed P in
    PassEmitted windowed xtrans W tile lines a n P.first Q.first P.second Q.second before after

-- only the rows of line n may be other than they were
abbrev pub OnlyLine : Bool → Part → ℕ → (before after : List ℕ) → Type 0
OnlyLine windowed a n before after = Changed (λ i. windowed && in_rows a (6 * n) (6 * n + 6) i) (λ i. get_or after i 0) before after

-- what a line hands back, by its reading on the 18 lines
abbrev pub IsLinedIn : Bool → Bool → ℕ → List ℕ → Part → ℕ → Option State → (before after : Buffers) → Option Place → Type 0
IsLinedIn windowed xtrans W tile a n None before after r = r ≡ None
IsLinedIn windowed xtrans W tile a n (Some z) before after r =
    (r ≡ Some (record { at = z.at; tight = z.tight; long = z.long })) × Held windowed W 6 z.lines after.lines × (after.records ≡ z.records)
    × Changed (λ i. windowed && in_rows a (6 * n) (6 * n + 6) i) (emitted_sample xtrans W tile z.lines a) before.image after.image

abbrev pub LineReadIn : Bool → Form → Quantisers → List ℕ → Place → List ℕ → Part → ℕ → (before after : Buffers) → Option Place → Type 0
LineReadIn windowed F Q s from tile a n before after r =
    let W = width_of F.xtrans in
    (l : List ℕ) → length l ≡ 18 * (W + 2) → Held windowed W 0 l before.lines
    → IsLinedIn windowed F.xtrans W tile a n (read_line F Q.base s (state_at l before.records from)) before after r

-- ---- a block

-- the lines whose rows are not what they were
abbrev pub reached_lines : Result (Totals × TightLines) (ℕ × Totals) → ℕ → ℕ
reached_lines (Ok (all, tight)) count = count
reached_lines (Err (line, before)) count = suc line

abbrev pub ShownIn : Bool → Form → (bases s tile : List ℕ) → Part → Result (Totals × TightLines) (ℕ × Totals) → ℕ → (before after : List ℕ) → Type 0
ShownIn false F bases s tile a r count before after = Shown F bases s tile a (shown_lines r count) before after
ShownIn true F bases s tile a r count before after =
    Changed (in_rows a 0 (6 * reached_lines r count)) (λ i. cond (ltb (picture_row a i / 6) (shown_lines r count)) (shown_sample F bases s tile a i) 0) before after

-- ---- lines from line `first` on, which finds the state z

-- all of them were read, with these totals; so many had only tight codes; and scratch stands for what they left
pub record ReadOn (windowed : Bool) (F : Form) (bases s : List ℕ) (first : ℕ) (z : State) (more : ℕ) (all : Totals) (tight : TightLines)
    (after : Buffers) : Type 0 where
  pub end : State
  pub read : read_from F bases s first z more ≡ Some end
  pub all_is : all ≡ totals_in (Some end)
  pub tight_is : tight ≡ tight_of (λ n. read_from F bases s first z n) more
  pub held : Held windowed (width_of F.xtrans) 6 end.lines after.lines
  pub records : after.records ≡ end.records

-- or this line, `count` lines on, is the first that is truncated
pub record CutOn (F : Form) (bases s : List ℕ) (first : ℕ) (z : State) (more line : ℕ) (totals : Totals) : Type 0 where
  pub count : ℕ
  pub before : State
  pub inside : suc count ≤ more
  pub line_is : line ≡ first + count
  pub read : read_from F bases s first z count ≡ Some before
  pub cut : read_from F bases s first z (suc count) ≡ None
  pub totals_are : totals ≡ totals_in (Some before)

abbrev pub IsReadOn : Bool → Form → (bases s : List ℕ) → ℕ → State → ℕ → (after : Buffers) → Result (Totals × TightLines) (ℕ × Totals) → Type 0
IsReadOn windowed F bases s first z more after (Ok (all, tight)) = ReadOn windowed F bases s first z more all tight after
IsReadOn windowed F bases s first z more after (Err (line, before)) = CutOn F bases s first z more line before

-- the image, where all lines would end with line `end`
abbrev pub ShownOn : Bool → Form → (bases s tile : List ℕ) → Part → ℕ → State → Result (Totals × TightLines) (ℕ × Totals) → ℕ → (before after : List ℕ) → Type 0
ShownOn false F bases s tile a first z r end before after =
    Changed (in_rows a (6 * first) (6 * shown_lines r end)) (shown_from F bases s tile first z a) before after
ShownOn true F bases s tile a first z r end before after =
    Changed (in_rows a (6 * first) (6 * reached_lines r end))
    (λ i. cond (ltb (picture_row a i / 6) (shown_lines r end)) (shown_from F bases s tile first z a i) 0) before after

-- what reading `more` lines from there says, of any 18 lines for which the lines that are kept stand
abbrev pub LinesReadOn : Bool → Form → (bases s tile : List ℕ) → Part → ℕ → Place → ℕ → (before after : Buffers) → Result (Totals × TightLines) (ℕ × Totals) → Type 0
LinesReadOn windowed F bases s tile a first from more before after r =
    let W = width_of F.xtrans in
    (l : List ℕ) → length l ≡ 18 * (W + 2) → Held windowed W 6 l before.lines
    → IsReadOn windowed F bases s first (state_at l before.records from) more after r
    × ShownOn windowed F bases s tile a first (state_at l before.records from) r (first + more) before.image after.image

-- there are such lines
abbrev pub Stands : Bool → Bool → List ℕ → Type 0
Stands windowed xtrans v = (l : List ℕ) × (length l ≡ 18 * (width_of xtrans + 2)) × Held windowed (width_of xtrans) 6 l v

-- ---- the picture

abbrev pub PicturedIn : Bool → List ℕ → FujiHeader → Rect → List ℕ → ℕ → (before after : List ℕ) → Type 0
PicturedIn false d h r tile e before after = Pictured d h r tile e before after
PicturedIn true d h r tile e before after = PicturedWindowed d h r tile e before after

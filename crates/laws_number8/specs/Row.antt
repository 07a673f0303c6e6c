-- Row 8 of document 01's first table of numbers, clause by clause in its order, with the module's figures, and what document 02's
-- order 2 adds to it: `Breaks g s ds`, ds being the downloads.
-- That the paper's `accepted` fails exactly then is `number-8` in proofs/Number8. Assumes nothing.
use Rattle.std.specs.Prelude.{◌≡◌, Bool, true, false, List, ◌≢◌, ◌⊎◌, ℕ, ◌+◌, ◌*◌, ◌-◌, ◌<◌, ◌≤◌, length, get_or, None}
use Rattle.paper.specs.declared.Module.{Module}
use Rattle.paper.specs.declared.Settings.{Settings}
use Rattle.paper.specs.declared.Cursor.{Cursor}
use Rattle.paper.specs.declared.Window.{Window}
use Rattle.paper.specs.declared.Span.{Span}
use Rattle.paper.specs.declared.Batch.{Batch}
use Rattle.paper.specs.declared.Columns.{Columns}
use Rattle.paper.specs.declared.Half.{Half}
use Rattle.paper.specs.declared.Half.TheVariants.{GlyphWidth, GlyphByte}
use Rattle.paper.specs.declared.State.{State}
use Rattle.paper.specs.Downloads.{place_length, store_length, code_at, width_at, column_at, is_stored, is_full}
use Rattle.paper.specs.Strokes.{no_span}
use Rattle.paper.specs.Settings.{no_window, window_at, hold_of}
use Rattle.laws_bytes.specs.Beginnings.{Beginning}

-- ---- the words of the row

-- user window k of the record
abbrev pub window : State → ℕ → Window
window s k = window_at s.windows k

-- window k is a defined user window: one of the four, whose record is not that of no window, all zeros
pub record Defined (s : State) (k : ℕ) : Type 0 where
  pub first : 1 ≤ k
  pub last : k ≤ 4
  pub some : window s k ≢ no_window

-- a cursor outside a window of so many columns and rows
abbrev pub Outside : ℕ → ℕ → Cursor → Type 0
Outside columns rows k = (columns ≤ k.x) ⊎ (rows ≤ k.y)

-- a mode other than MD1, MD2, MD3
abbrev pub NoMode : Cursor → Type 0
NoMode k = (k.mode < 1) ⊎ (3 < k.mode)

-- a setting outside the domain that "How bytes are read" gives its command
pub data OutOfDomain (g : Module) (v : Settings) : Type 0 where
  -- 1Bh: "52h n (0 to 13)", "74h n (0 to 5, 16 to 19)"
  charset : 13 < v.charset → OutOfDomain g v
  codes : 5 < v.codes → (v.codes < 16) ⊎ (19 < v.codes) → ¬ ((g.tables ≡ true) × (v.codes ≡ 0xFF)) → OutOfDomain g v
  -- 1Fh: "43h n (0, 1)", "58h n (1 to 8)", "72h n (0, 1) reverse", "73h n (0 to 31, kept only)", "77h n (0 to 3) mixing"
  caret : 1 < v.caret → OutOfDomain g v
  brightness : (v.brightness < g.dimmest) ⊎ (g.brightest < v.brightness)
      → ¬ ((g.finer ≡ true) × (0x10 ≤ v.brightness) × (v.brightness ≤ 0x18)) → OutOfDomain g v
  reverse : 1 < v.style.reverse → OutOfDomain g v
  speed : 31 < v.speed → OutOfDomain g v
  mixing : 3 < v.style.mixing → OutOfDomain g v
  -- 1Fh 28h 67h: "03h w (0 or 1; ..)", "40h x y (x 1 to 4, y 1 to 2)"
  width : 1 < v.width → OutOfDomain g v
  across : (v.style.across < 1) ⊎ (4 < v.style.across) → OutOfDomain g v
  down : (v.style.down < 1) ⊎ (2 < v.style.down) → OutOfDomain g v
  -- 1Fh 28h 77h: "10h a (0, 1) write mode"
  write : 1 < v.write → OutOfDomain g v
  -- document 02, order 2: "The switch takes 0 or 1"
  switch : 1 < v.switch → OutOfDomain g v

-- row y's span, which is nothing if it is `noSpan`, 0 and 0; and its last column: the record has the column after it
abbrev pub span : State → ℕ → Span
span s y = get_or s.spans y no_span

abbrev pub last_of : Span → ℕ
last_of p = p.end - 1

-- place k of the downloads holds something: one of its nine bytes is not 0
pub record Taken (ds : List ℕ) (k : ℕ) : Type 0 where
  pub last : k < 16
  pub byte : ℕ
  pub inside : byte < place_length
  pub some : get_or ds (place_length * k + byte) 0 ≢ 0

-- what is half read is a define that has come to these codes, with this note of a drop
pub data Defines : Half → Batch → Bool → Type 0 where
  at_width : (d : Batch) (n : Bool) → Defines (GlyphWidth d n) d n
  at_column : (d : Batch) (n : Bool) (c : Columns) → Defines (GlyphByte d n c) d n

-- "a code read to its last byte is not stored"
abbrev pub Missing : List ℕ → Batch → ℕ → Type 0
Missing ds d c = (d.first ≤ c) × (c < d.code) × (is_stored ds c ≡ false)

-- ---- the row

-- 8: "state record breaks a bound of this paper"
pub data Breaks (g : Module) (s : State) (ds : List ℕ) : Type 0 where
  -- "a user window leaving the memory"
  window_leaves : (k : ℕ) → Defined s k
      → (g.columns < (window s k).left + (window s k).width) ⊎ (g.rows < (window s k).top + (window s k).height) → Breaks g s ds
  -- of our record's form: a window without columns or rows is none, and the record of none is all zeros
  window_of_no_size : (k : ℕ) → Defined s k → ((window s k).width ≡ 0) ⊎ ((window s k).height ≡ 0) → Breaks g s ds
  -- "a cursor outside its window"
  cursor_outside : (k : ℕ) → Defined s k → Outside (window s k).width (window s k).height (window s k).cursor → Breaks g s ds
  base_cursor_outside : Outside g.columns g.rows s.base → Breaks g s ds
  -- "a setting or, while held, a saved one outside its domain": the common settings, and each window's mode
  setting_out : OutOfDomain g s.settings → Breaks g s ds
  mode_out : (k : ℕ) → Defined s k → NoMode (window s k).cursor → Breaks g s ds
  base_mode_out : NoMode s.base → Breaks g s ds
  saved_setting_out : (k back : ℕ) (v : Settings) → s.hold ≡ hold_of k back v → OutOfDomain g v → Breaks g s ds
  -- "an undefined window selected, held or, while held, saved as selected": 0 selects the base, which can't be held
  undefined_selected : s.selected ≢ 0 → ¬ Defined s s.selected → Breaks g s ds
  undefined_held : (k back : ℕ) (v : Settings) → s.hold ≡ hold_of k back v → ¬ Defined s k → Breaks g s ds
  undefined_saved : (k back : ℕ) (v : Settings) → s.hold ≡ hold_of k back v → back ≢ 0 → ¬ Defined s back → Breaks g s ds
  -- "a held window that is not the selected one"
  held_not_selected : (k back : ℕ) (v : Settings) → s.hold ≡ hold_of k back v → k ≢ s.selected → Breaks g s ds
  -- "a span whose first exceeds its last or whose last exceeds 511"
  span_wrong : (y : ℕ) → span s y ≢ no_span → (last_of (span s y) < (span s y).first) ⊎ (g.columns ≤ last_of (span s y)) → Breaks g s ds
  -- "an impossible half-read command: one that is not a proper beginning of a command by the reading rules"
  half_impossible : ¬ Beginning g s.half → Breaks g s ds
  -- of our record's form: the downloads have 16 places
  places_missing : length ds ≢ store_length → Breaks g s ds
  -- "a code twice or below 20h, a width not 5 or 7"
  code_twice : (i k : ℕ) → Taken ds i → Taken ds k → i < k → code_at ds i ≡ code_at ds k → Breaks g s ds
  code_low : (k : ℕ) → Taken ds k → code_at ds k < 0x20 → Breaks g s ds
  width_other : (k : ℕ) → Taken ds k → width_at ds k ≢ 5 → width_at ds k ≢ 7 → Breaks g s ds
  -- of our record's form: a download of five columns has no sixth and no seventh
  column_unused : (k : ℕ) → Taken ds k → width_at ds k ≢ 7 → (column_at ds k 5 ≢ 0) ⊎ (column_at ds k 6 ≢ 0) → Breaks g s ds
  -- "outside a hold, a half-read define of which a code read to its last byte is not stored while fewer than 16 are"
  define_missing : (d : Batch) (n : Bool) (c : ℕ) → s.hold ≡ None → Defines s.half d n → Missing ds d c → is_full ds ≡ false
      → Breaks g s ds
  -- "or whose note of a drop says other than that such a code is not stored"
  note_missing : (d : Batch) (c : ℕ) → s.hold ≡ None → Defines s.half d false → Missing ds d c → Breaks g s ds
  note_wrong : (d : Batch) → s.hold ≡ None → Defines s.half d true → ((c : ℕ) → ¬ Missing ds d c) → Breaks g s ds

-- Settings in their domains: one changed, the cell that they ask for, the initial ones. Assumes nothing.
use mathlib.Core.Path.{◌≡◌, refl}
use mathlib.Core.Bool.{Bool, true, false, cond, ◌&&◌}
use Prim.Native.Nat.{ℕ, ◌+◌, ◌*◌, ◌≤◌}
use native.Mathlib.Nat.{mul-le-mul}
use native.Mathlib.Omega.{arith}
use lib.Dec.{eqb}
use Rattle.paper.specs.declared.Module.{Module}
use Rattle.paper.specs.declared.Settings.{Settings}
use Rattle.paper.specs.declared.Key.{Key}
use Rattle.paper.specs.declared.Key.TheVariants.{Charset, Codes, Caret, Brightness, Reverse, Speed, Mixing, Width, Write, Switch}
use Rattle.paper.specs.Reading.{between}
use Rattle.paper.specs.Settings.{initial_style, initial_settings, in_domain, in_enlargement, with_setting, enlarged}
use Rattle.paper.specs.Bounds.{settings_ok}
use Rattle.paper.specs.Cells.{blank_columns, cell_width}
use Rattle.laws_bytes.proofs.Tests.{both_of, between_facts}
use Rattle.laws_state.specs.Room.{Usable, CellSize}

-- every setting in its domain
pub record Domains (g : Module) (v : Settings) : Type 0 where
  pub charset : in_domain g Charset v.charset ≡ true
  pub codes : in_domain g Codes v.codes ≡ true
  pub caret : in_domain g Caret v.caret ≡ true
  pub brightness : in_domain g Brightness v.brightness ≡ true
  pub speed : in_domain g Speed v.speed ≡ true
  pub width : in_domain g Width v.width ≡ true
  pub write : in_domain g Write v.write ≡ true
  pub switch : in_domain g Switch v.switch ≡ true
  pub reverse : in_domain g Reverse v.style.reverse ≡ true
  pub mixing : in_domain g Mixing v.style.mixing ≡ true
  pub enlargement : in_enlargement v.style.across v.style.down ≡ true

-- that is what the test says
pub domains : (g : Module) (v : Settings) → settings_ok g v ≡ true → Domains g v
unfolding settings_ok
domains g v h =
    let charset = both_of (in_domain g Charset v.charset) _ h in
    let codes = both_of (in_domain g Codes v.codes) _ charset.1 in
    let caret = both_of (in_domain g Caret v.caret) _ codes.1 in
    let brightness = both_of (in_domain g Brightness v.brightness) _ caret.1 in
    let speed = both_of (in_domain g Speed v.speed) _ brightness.1 in
    let width = both_of (in_domain g Width v.width) _ speed.1 in
    let write = both_of (in_domain g Write v.write) _ width.1 in
    let switch = both_of (in_domain g Switch v.switch) _ write.1 in
    let reverse = both_of (in_domain g Reverse v.style.reverse) _ switch.1 in
    let mixing = both_of (in_domain g Mixing v.style.mixing) _ reverse.1 in
    record {
      charset = charset.0;
      codes = codes.0;
      caret = caret.0;
      brightness = brightness.0;
      speed = speed.0;
      width = width.0;
      write = write.0;
      switch = switch.0;
      reverse = reverse.0;
      mixing = mixing.0;
      enlargement = mixing.1;
    }

-- eleven tests that pass
eleven : {a b c d e f g h i j k : Bool} → a ≡ true → b ≡ true → c ≡ true → d ≡ true → e ≡ true → f ≡ true → g ≡ true → h ≡ true
    → i ≡ true → j ≡ true → k ≡ true → (a && (b && (c && (d && (e && (f && (g && (h && (i && (j && k)))))))))) ≡ true
eleven a b c d e f g h i j k = rw (a, b, c, d, e, f, g, h, i, j, k)

module _ (g : Module) (v : Settings) (p : Domains g v) where
  -- one setting changed, to a value of its domain, by its key
  set_by : (key : Key) (n : ℕ) → in_domain g key n ≡ true → settings_ok g (with_setting v key n) ≡ true
  unfolding settings_ok with_setting
  set_by Charset n h =
      eleven h p.codes p.caret p.brightness p.speed p.width p.write p.switch p.reverse p.mixing p.enlargement
  set_by Codes n h =
      eleven p.charset h p.caret p.brightness p.speed p.width p.write p.switch p.reverse p.mixing p.enlargement
  set_by Caret n h =
      eleven p.charset p.codes h p.brightness p.speed p.width p.write p.switch p.reverse p.mixing p.enlargement
  set_by Brightness n h =
      eleven p.charset p.codes p.caret h p.speed p.width p.write p.switch p.reverse p.mixing p.enlargement
  set_by Reverse n h =
      eleven p.charset p.codes p.caret p.brightness p.speed p.width p.write p.switch h p.mixing p.enlargement
  set_by Speed n h =
      eleven p.charset p.codes p.caret p.brightness h p.width p.write p.switch p.reverse p.mixing p.enlargement
  set_by Mixing n h =
      eleven p.charset p.codes p.caret p.brightness p.speed p.width p.write p.switch p.reverse h p.enlargement
  set_by Width n h =
      eleven p.charset p.codes p.caret p.brightness p.speed h p.write p.switch p.reverse p.mixing p.enlargement
  set_by Write n h =
      eleven p.charset p.codes p.caret p.brightness p.speed p.width h p.switch p.reverse p.mixing p.enlargement
  set_by Switch n h =
      eleven p.charset p.codes p.caret p.brightness p.speed p.width p.write h p.reverse p.mixing p.enlargement

  -- the enlargement changed
  enlarge_by : (x y : ℕ) → in_enlargement x y ≡ true → settings_ok g (enlarged v x y) ≡ true
  unfolding settings_ok
  enlarge_by x y h =
      eleven p.charset p.codes p.caret p.brightness p.speed p.width p.write p.switch p.reverse p.mixing h

-- a frame adds two columns at most
blanks_most : (f t : Bool) → cond f (cond t 1 2) 0 ≤ 2
blanks_most true true = omega arith
blanks_most true false = omega arith
blanks_most false t = omega arith

-- some columns, ten at most, once to four times
width_bounds : (c n : ℕ) → 1 ≤ c → c ≤ 10 → 1 ≤ n → n ≤ 4 → (1 ≤ c * n) × (c * n ≤ 40)
width_bounds c n some most l h = omega (arith, mul-le-mul some l, mul-le-mul most h)

-- the initial settings
pub initial_ok : (g : Module) → Usable g → settings_ok g (initial_settings g) ≡ true
unfolding settings_ok initial_settings initial_style in_domain in_enlargement
initial_ok g u = eleven refl refl refl u.bright refl refl refl refl refl refl refl

module _ (g : Module) (v : Settings) (o : settings_ok g v ≡ true) where
  -- one setting changed, to a value of its domain
  pub set_ok : (key : Key) (n : ℕ) → in_domain g key n ≡ true → settings_ok g (with_setting v key n) ≡ true
  set_ok = set_by g v (domains g v o)

  -- the enlargement changed
  pub enlarged_ok : (x y : ℕ) → in_enlargement x y ≡ true → settings_ok g (enlarged v x y) ≡ true
  enlarged_ok = enlarge_by g v (domains g v o)

  -- a cell is some columns wide, no more than 40, and 1 or 2 rows high
  pub cell_size : Usable g → CellSize g v
  unfolding cell_width in_enlargement
  cell_size u =
      let f = both_of (between 1 4 v.style.across) (between 1 2 v.style.down) (domains g v o).enlargement in
      let x = between_facts 1 4 v.style.across f.0 in
      let y = between_facts 1 2 v.style.down f.1 in
      let b = blanks_most g.framed (eqb v.width 0) in
      let c = g.glyph + blank_columns g v.width in
      let w = width_bounds c v.style.across (omega (arith, u.glyph_some)) (omega (arith, u.glyph_small)) x.0 x.1 in
      record { narrow = w.0; wide = w.1; low = y.0; high = y.1 }

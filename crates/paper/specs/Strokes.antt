-- What a command writes, as strokes: document 01's "stored by a rule", and "Holding, spans and refresh" as far as spans go.
-- A stroke is a rectangle of memory and the byte that each place of it takes. A command's strokes are its whole effect on
-- dots; they move the memory, they grow the spans, and the last one that holds a cell is who wrote it. Assumes nothing.
use Rattle.std.specs.Prelude.{ℕ, suc, ◌+◌, ◌-◌, min, max, Bool, cond, ◌&&◌, List, [], ◌∷◌, get_or, replicate, leb, ltb, eqb}
use Rattle.paper.specs.declared.Module.{Module}
use Rattle.paper.specs.declared.Rect.{Rect}
use Rattle.paper.specs.declared.Span.{Span}
use Rattle.paper.specs.Panel.{column_of, row_of, each}

-- the rules that store: a character's cell, the all-off cell of a wrap, a move of the range's rows up or left, CLR, an image
-- byte, initialise
pub data Rule : Type 0 where
  draw wrapBlank scroll clear image initialise : Rule

-- a rectangle by its parts
abbrev pub rect_at : ℕ → ℕ → ℕ → ℕ → Rect
rect_at left top width height = record { left = left; top = top; width = width; height = height }

-- `byte m j r b`: what stands at the stroke's column j and row r afterwards, m the memory and b the byte there before
pub record Stroke : Type 0 where
  pub rule : Rule
  pub rect : Rect
  pub byte : List ℕ → ℕ → ℕ → ℕ → ℕ

-- x is one of the n numbers from lo
abbrev pub among : ℕ → ℕ → ℕ → Bool
among lo n x = leb lo x && ltb x (lo + n)

-- address a lies in the rectangle
abbrev pub in_rect : Module → Rect → ℕ → Bool
in_rect g q a = among q.left q.width (column_of g a) && among q.top q.height (row_of g a)

-- the rectangle's byte b at its column j and row r becomes f j r b; all else stays
unfoldable pub rect_map : Module → Rect → (ℕ → ℕ → ℕ → ℕ) → List ℕ → List ℕ
rect_map g q f m = each (λ a b. cond (in_rect g q a) (f (column_of g a - q.left) (row_of g a - q.top) b) b) m

abbrev pub holds : Module → Stroke → ℕ → Bool
holds g s a = in_rect g s.rect a

abbrev pub applied : Module → List ℕ → Stroke → List ℕ
applied g m s = rect_map g s.rect (s.byte m) m

-- one stroke after the other
abbrev pub apply_all : Module → List ℕ → List Stroke → List ℕ
apply_all g m [] = m
apply_all g m (s ∷ ss) = apply_all g (applied g m s) ss

-- ---- spans

-- "or nothing"
abbrev pub no_span : Span
no_span = record { first = 0; end = 0 }

-- "both spans empty"
abbrev pub no_spans : Module → List Span
no_spans g = replicate g.rows no_span

-- the columns from first to the one before end
abbrev pub span_of : ℕ → ℕ → Span
span_of first end = record { first = first; end = end }

abbrev pub is_nothing : Span → Bool
is_nothing p = eqb p.end 0

abbrev pub span_holds : Span → ℕ → Bool
span_holds p x = leb p.first x && ltb x p.end

-- "For each row a span holds the first and last column written since the last refresh, or nothing."
unfoldable pub grown : Span → ℕ → ℕ → Span
grown p first end = cond (is_nothing p) (span_of first end) (span_of (min p.first first) (max p.end end))

-- "Written means stored by a rule, even with an equal value": row y's span grows by a rectangle's columns on that row
unfoldable pub grown_by : Rect → ℕ → Span → Span
grown_by q y p = cond (ltb 0 q.width && among q.top q.height y) (grown p q.left (q.left + q.width)) p

abbrev pub mark_from : Rect → ℕ → List Span → List Span
mark_from q y [] = []
mark_from q y (p ∷ ps) = grown_by q y p ∷ mark_from q (suc y) ps

-- each row's span grows by a rectangle
abbrev pub mark_rect : Rect → List Span → List Span
mark_rect q ps = mark_from q 0 ps

abbrev pub marked : List Span → Stroke → List Span
marked ps s = mark_rect s.rect ps

abbrev pub mark_all : List Span → List Stroke → List Span
mark_all ps [] = ps
mark_all ps (s ∷ ss) = mark_all (marked ps s) ss

-- ---- refresh

-- "Refresh copies each span's visible columns, changes no other glass byte": the glass has the visible columns only, and its
-- addresses are the memory's
unfoldable pub refreshed : Module → List ℕ → List Span → List ℕ → List ℕ
refreshed g m ps glass =
    each (λ a b. cond (span_holds (get_or ps (row_of g a) no_span) (column_of g a)) (get_or m a 0) b) glass

-- "the visible span lengths"
unfoldable pub shown : Module → Span → ℕ
shown g p = min p.end g.visible - p.first

-- "the sum of the visible span lengths"
abbrev pub shown_all : Module → List Span → ℕ
shown_all g [] = 0
shown_all g (p ∷ ps) = shown g p + shown_all g ps

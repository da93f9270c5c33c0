-- What a command has written when it fails: nothing, or a part of its answer.
-- - `not_begun`: before the first write
-- - `begun_run`, `begun_pattern`: after a failed run of an expression, and a failed write of a pattern
-- - `HasBegun-map`: a part of an answer, as one of another kind
-- - `HasBegun-answered`, `IsAnswered-kept`: after a flush, which keeps what was written
use Rattle.std.proofs.Common.{◌≡◌, ◌⊎◌, ℕ, List, [], Option, Some, None, Result, Ok, Err, OnErr}
use Rattle.std.proofs.Common.{inl, inr, refl, sym, subst, ◌∙◌}
use Rattle.std.proofs.lemmas.List.{append-nil}
use Rattle.std.specs.declared.io.ErrorKind.{ErrorKind}
use Rattle.std.specs.Io.KnownBytes.{Keeps, Appends, append_known}
use Rattle.std.specs.Prelude.{codes}
use Rattle.nalgebra_sparse.specs.Compressed.{Compressed}
use Rattle.nalgebra_sparse.specs.OneMatrix.{coo_of_cols}
use Rattle.nalgebra_sparse.specs.Raw.{Raw}
use Rattle.nalgebra_sparse.specs.Run.{RefusesRun, Writes, WritesSome, text_in, effect}
use Rattle.nalgebra_sparse.specs.Sink.{AppendsSome}
use Rattle.nalgebra_sparse.specs.Written.{text_of}
use Rattle.sparse_expr.specs.declared.calculator.Form.{Form}
use Rattle.sparse_expr.specs.declared.error.ExprError.{ExprError}
use Rattle.sparse_expr.specs.declared.error.ExprError.TheVariants.{Input, Write, OutOfMemory}
use Rattle.sparse_expr.specs.declared.error.ExprError.TheVariants.{NoSuchInput, Shape}
use Rattle.sparse_expr.specs.declared.expr.Expr.{Expr}
use Rattle.file_readings.specs.Readings.{Reading}
use Rattle.mtx_commands.specs.Commands.{IsAnswered}
use Rattle.mtx_commands.specs.Fills.{WritesPattern}
use Rattle.mtx_commands.specs.Writes.{HasBegun}

-- ---- outputs whose bytes may be known

Keeps-same : (old : Option (List ℕ)) → Keeps old old
Keeps-same None = tt
Keeps-same (Some bytes) = refl

Keeps-is : (old new : Option (List ℕ)) → new ≡ old → Keeps old new
Keeps-is old new is = subst (Keeps old) (sym is) (Keeps-same old)

Appends-kept : (old mid new : Option (List ℕ)) (text : List ℕ) → Appends old mid text → Keeps mid new
    → Appends old new text
Appends-kept None mid new text first then = tt
Appends-kept (Some xs) None new text first then = absurd first
Appends-kept (Some xs) (Some ys) None text first then = absurd then
Appends-kept (Some xs) (Some ys) (Some zs) text first then = then ∙ first

Appends-known : (old : Option (List ℕ)) (text : List ℕ) → Appends old (append_known old text) text
Appends-known None text = tt
Appends-known (Some bytes) text = refl

-- the whole text is a part of it
AppendsSome-whole : (old new : Option (List ℕ)) (text : List ℕ) → Appends old new text
    → AppendsSome old new text
AppendsSome-whole old new text is =
    record { done = text; rest = []; parts = sym (append-nil text); appended = is }

-- a fact about an error, whichever it is
pub OnErr-always : {T E X : Type 0} (result : Result T E) → X → OnErr result X
OnErr-always (Ok x) h = tt
OnErr-always (Err e) h = h

-- ---- parts of answers

module _ {P : Option (List ℕ) → Option (List ℕ) → Type 0} where
  pub not_begun : (old : Option (List ℕ)) → HasBegun P old old
  not_begun old = inl (Keeps-same old)

  pub HasBegun-map : {Q : Option (List ℕ) → Option (List ℕ) → Type 0} (old new : Option (List ℕ))
      → ((whole : Option (List ℕ)) → P old whole → Q old whole) → HasBegun P old new
      → HasBegun Q old new
  HasBegun-map old new map (inl kept) = inl kept
  HasBegun-map old new map (inr w) = inr (record {
    whole = w.whole;
    text = w.text;
    is_answer = map w.whole w.is_answer;
    appended = w.appended;
    part = w.part;
  })

  -- a prefix of a text was appended with which the output would be an answer
  pub HasBegun-text : (old new : Option (List ℕ)) (text : List ℕ)
      → P old (append_known old text) → AppendsSome old new text → HasBegun P old new
  HasBegun-text old new text is part = inr (record {
    whole = append_known old text;
    text = text;
    is_answer = is;
    appended = Appends-known old text;
    part = part;
  })

-- an answer, as the part of itself
HasBegun-whole : {P : Option (List ℕ) → Option (List ℕ) → Type 0} (old mid new : Option (List ℕ))
    (text : List ℕ) → P old mid → Appends old mid text → Keeps mid new → HasBegun P old new
HasBegun-whole old mid new text is appended then = inr (record {
  whole = mid;
  text = text;
  is_answer = is;
  appended = appended;
  part = AppendsSome-whole old new text (Appends-kept old mid new text appended then);
})

-- ---- a failed run of an expression

module _ (form : Form) (texts : List (List ℕ)) (expr : Expr) where
  some_begun : (old new : Option (List ℕ)) → WritesSome form texts expr old new
      → HasBegun (Writes form texts expr) old new
  some_begun old new w = HasBegun-text old new (text_in form w.value)
      (record {
        value = w.value;
        is_value = w.is_value;
        appended = Appends-known old (text_in form w.value);
      })
      w.appended

  pub begun_run : (old new : Option (List ℕ)) (before after : ℕ) (last : Option ErrorKind)
      (error : ExprError) → RefusesRun form texts expr (effect old new before after last) error
      → HasBegun (Writes form texts expr) old new
  begun_run old new before after last (Input number kind) why = inl (Keeps-is old new why.1.0)
  begun_run old new before after last NoSuchInput why = inl (Keeps-is old new why.1.0)
  begun_run old new before after last Shape why = inl (Keeps-is old new why.1.0)
  begun_run old new before after last (Write kind) why = some_begun old new why.0
  begun_run old new before after last OutOfMemory (count, inl same) = inl (Keeps-is old new same)
  begun_run old new before after last OutOfMemory (count, inr some) = some_begun old new some
  begun_run old new before after last error why = absurd why

-- ---- a failed write of a pattern

pub begun_pattern : (pattern : Raw) (matrix : Compressed (Unit {0})) (old new : Option (List ℕ))
    → matrix.pattern ≡ pattern
    → AppendsSome old new (text_of (codes "pattern") (λ x. []) (coo_of_cols matrix))
    → HasBegun (WritesPattern pattern) old new
begun_pattern pattern matrix old new has part = HasBegun-text old new _
    (record { matrix = matrix; has = has; appended = Appends-known old _ }) part

-- ---- after a flush

module _ (words : List (List ℕ)) (before after : List Reading) (old mid new : Option (List ℕ)) where
  pub IsAnswered-kept : IsAnswered words before after old mid → Keeps mid new
      → IsAnswered words before after old new
  IsAnswered-kept (inl (form, h)) then =
      let value = h.evaluated.written in
      inl (
        form,
        record {
          expression = h.expression;
          paths = h.paths;
          split = h.split;
          some = h.some;
          evaluated = record {
            sources = h.evaluated.sources;
            expr = h.evaluated.expr;
            read = h.evaluated.read;
            said = h.evaluated.said;
            written = record {
              value = value.value;
              is_value = value.is_value;
              appended = Appends-kept old mid new _ value.appended then;
            };
          };
        },
      )
  IsAnswered-kept (inr h) then =
      let (text, read, filled) = h.filled in
      inr (record {
        triangle = h.triangle;
        path = h.path;
        asked = h.asked;
        filled = (
          text,
          read,
          record {
            symbolic = filled.symbolic;
            read = filled.read;
            factor = filled.factor;
            written = record {
              matrix = filled.written.matrix;
              has = filled.written.has;
              appended = Appends-kept old mid new _ filled.written.appended then;
            };
          },
        );
      })

  pub HasBegun-answered : IsAnswered words before after old mid → Keeps mid new
      → HasBegun (IsAnswered words before after) old new
  HasBegun-answered (inl (form, h)) then = HasBegun-whole old mid new _ (inl (form, h))
      h.evaluated.written.appended then
  HasBegun-answered (inr h) then =
      HasBegun-whole old mid new _ (inr h) h.filled.2.written.appended then

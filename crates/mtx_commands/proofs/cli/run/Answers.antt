use Rattle.std.proofs.Common.{◌≡◌, ◌<◌, ◌≤◌, List, [], ◌∷◌, ℕ, inl}
use Rattle.std.proofs.Common.{inr, refl, sym, ap, ◌∙◌, length, get_or, arith, ◌-◌, ◌≢◌, take, drop}
use Rattle.std.proofs.Common.{Result, Ok, Err, OnErr, IfErr, Option}
use Rattle.std.proofs.lemmas.Bool.{eqb-false}
use Rattle.std.proofs.lemmas.List.{take_all, length-map}
use denote.Ref.{Bor}
use Rattle.nalgebra_sparse.specs.PostfixWords.{texts}
use Rattle.nalgebra_sparse.specs.Run.{Effect}
use Rattle.sparse_expr.specs.declared.calculator.Form.{Form}
use Rattle.sparse_factor.specs.declared.factorization.Triangle.{Triangle}
use Rattle.sparse_factor.specs.declared.factorization.Triangle.TheVariants.{Upper}
use Rattle.file_readings.specs.Readings.{Reading}
use Rattle.file_readings.specs.Reads.{ReadsOne}
use Rattle.mtx_commands.specs.Commands.{AsksFill, IsAnswered, IsEvaluated, name_of}
use Rattle.mtx_commands.specs.Failures.{CanFail, IsUnevaluated}
use Rattle.mtx_commands.specs.Fills.{WritesFill}
use Rattle.mtx_commands.specs.Writes.{HasBegun}
use Rattle.mtx_commands.specs.declared.cli.Failure.{Failure}
use Rattle.mtx_commands.proofs.Begun.{HasBegun-map}
use Rattle.mtx_commands.proofs.cli.run.Goals as goal

-- the texts of two words, of which the first is known
two_words : (words : List (Bor (List ℕ))) (d e : Bor (List ℕ)) (first : List ℕ) → 2 ≤ length words
    → length words < 3 → (get_or words 0 d).now ≡ first
    → texts words ≡ first ∷ ((get_or words 1 e).now ∷ [])
two_words [] d e first least below is = absurd (omega arith)
two_words (a ∷ []) d e first least below is = absurd (omega arith)
two_words (a ∷ (b ∷ [])) d e first least below is = ap (λ (w : List ℕ). w ∷ (b.now ∷ [])) is
two_words (a ∷ (b ∷ (c ∷ rest))) d e first least below is = absurd (omega arith)

-- the texts of three words, of which the first two are known
three_words : (words : List (Bor (List ℕ))) (d e f : Bor (List ℕ)) (first second : List ℕ)
    → 3 ≤ length words → length words < 4 → (get_or words 0 d).now ≡ first
    → (get_or words 1 e).now ≡ second
    → texts words ≡ first ∷ (second ∷ ((get_or words 2 f).now ∷ []))
three_words [] d e f first second least below is at = absurd (omega arith)
three_words (a ∷ []) d e f first second least below is at = absurd (omega arith)
three_words (a ∷ (b ∷ [])) d e f first second least below is at = absurd (omega arith)
three_words (a ∷ (b ∷ (c ∷ []))) d e f first second least below is at =
    ap (λ (w : List ℕ). w ∷ (b.now ∷ (c.now ∷ []))) is
    ∙ ap (λ (w : List ℕ). first ∷ (w ∷ (c.now ∷ []))) at
three_words (a ∷ (b ∷ (c ∷ (o ∷ rest)))) d e f first second least below is at = absurd (omega arith)

-- a part of a fill that the words ask for is a part of an answer
OnErr-fill : {T E : Type 0} (r : Result T E) (words : List (List ℕ)) (before after : List Reading)
    (old new : Option (List ℕ)) (triangle : Triangle) (path : List ℕ) → AsksFill triangle path words
    → OnErr r (HasBegun (λ t u. ReadsOne path (λ text. WritesFill triangle text t u) before after)
    old new)
    → OnErr r (HasBegun (IsAnswered words before after) old new)
OnErr-fill (Ok x) words before after old new triangle path asked begun = tt
OnErr-fill (Err e) words before after old new triangle path asked begun = HasBegun-map old new
    (λ whole filled.
    inr (record { triangle = triangle; path = path; asked = asked; filled = filled }))
    begun

pub returns-in-fill-clause-begun : goal.returns-in-fill-clause-begun
returns-in-fill-clause-begun g c =
    let words = two_words c.args.words.now _ _ _ c.in-fill.len_at_least c.in-fill.len_below
    c.in-fill.is-fill in
    OnErr-fill c.fill.result _ _ _ _ _ Upper _ (inr (refl, words)) c.fill.ensures.begun

pub returns-in-Some-clause-begun : goal.returns-in-Some-clause-begun
returns-in-Some-clause-begun g c =
    let words = three_words c.args.words.now _ _ _ _ _ c.in-fill-2.len_at_least
    c.in-fill-2.len_below c.in-fill-2.is-fill c.in-Some.ensures.named in
    OnErr-fill c.fill-in-Some.result _ _ _ _ _ c.in-Some.triangle _ (inl words)
    c.fill-in-Some.ensures.begun

-- ---- the value of an expression over the files after the first two words

abbrev rest_of : List (Bor (List ℕ)) → List (Bor (List ℕ))
rest_of words = take (length words - 2) (drop 2 words)

-- the texts of words, of which the first is known, and there are more than two
all_words : (words : List (Bor (List ℕ))) (d e : Bor (List ℕ)) (first : List ℕ)
    → length (rest_of words) ≢ 0 → (get_or words 0 d).now ≡ first
    → texts words ≡ first ∷ ((get_or words 1 e).now ∷ texts (rest_of words))
all_words [] d e first some is = absurd (some refl)
all_words (a ∷ []) d e first some is = absurd (some refl)
all_words (a ∷ (b ∷ rest)) d e first some is =
    let all = take_all (length (a ∷ (b ∷ rest)) - 2) rest (omega arith) in
    rw all (ap (λ (w : List ℕ). w ∷ (b.now ∷ texts rest)) is)

asked_value : (words : List (Bor (List ℕ))) (d e : Bor (List ℕ)) (form : Form)
    → length (rest_of words) ≢ 0 → (get_or words 0 d).now ≡ name_of form
    → (texts words ≡ name_of form ∷ ((get_or words 1 e).now ∷ texts (rest_of words)))
    × (0 < length (texts (rest_of words)))
asked_value words d e form some is = (
  all_words words d e (name_of form) some is,
  let long = length-map (rest_of words) (λ (word : Bor (List ℕ)). word.now) in
      omega (arith, long, some),
)

-- a part of the value that the words ask for is a part of an answer
OnErr-value : {T E : Type 0} (r : Result T E) (words : List (Bor (List ℕ)))
    (before after : List Reading) (old new : Option (List ℕ)) (d e : Bor (List ℕ)) (form : Form)
    → length (rest_of words) ≢ 0 → (get_or words 0 d).now ≡ name_of form
    → OnErr r (HasBegun (IsEvaluated form (get_or words 1 e).now (texts (rest_of words)) before after)
    old new)
    → OnErr r (HasBegun (IsAnswered (texts words) before after) old new)
OnErr-value (Ok x) words before after old new d e form some is begun = tt
OnErr-value (Err f) words before after old new d e form some is begun =
    let asked = asked_value words d e form some is in
    HasBegun-map old new (λ whole evaluated. inl (
      form,
      record {
        expression = (get_or words 1 e).now;
        paths = texts (rest_of words);
        split = asked.0;
        some = asked.1;
        evaluated = evaluated;
      },
    )) begun

-- why the value that the words ask for is not written
IfErr-value : {T : Type 0} (r : Result T Failure) (words : List (Bor (List ℕ)))
    (before after : List Reading) (effect : Effect) (d e : Bor (List ℕ)) (form : Form)
    → length (rest_of words) ≢ 0 → (get_or words 0 d).now ≡ name_of form
    → IfErr r (IsUnevaluated form (get_or words 1 e).now (texts (rest_of words)) before after effect)
    → IfErr r (CanFail (texts words) before after effect)
IfErr-value (Ok x) words before after effect d e form some is why = tt
IfErr-value (Err f) words before after effect d e form some is why =
    let asked = asked_value words d e form some is in
    inr (inl (record {
      asked = record {
        form = form;
        expression = (get_or words 1 e).now;
        paths = texts (rest_of words);
        split = asked.0;
        some = asked.1;
      };
      why = why;
    }))

pub returns-in-Some-form_of-clause-begun : goal.returns-in-Some-form_of-clause-begun
returns-in-Some-form_of-clause-begun g c =
    OnErr-value c.evaluate.result c.args.words.now _ _ _ _ _ _ c.in-Some-form_of.form
    (eqb-false _ _ (sym c.is_empty.ensures ∙ c.if-not-is_empty.true)) c.in-Some-form_of.ensures.named
    c.evaluate.ensures.begun

pub returns-in-Some-form_of-clause-failed : goal.returns-in-Some-form_of-clause-failed
returns-in-Some-form_of-clause-failed g c =
    IfErr-value c.evaluate.result c.args.words.now _ _ _ _ _ c.in-Some-form_of.form
    (eqb-false _ _ (sym c.is_empty.ensures ∙ c.if-not-is_empty.true)) c.in-Some-form_of.ensures.named
    c.evaluate.ensures.failed

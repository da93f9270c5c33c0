-- Texts loaded one after the other, as lists of triplets whose values are integers.
use Rattle.std.proofs.Common.{◌≡◌, ℕ, ℤ, ◌+◌, ◌<◌, ◌≤◌, List, [], ◌∷◌, ◌++◌, length, take, drop}
use Rattle.std.proofs.Common.{get_or, Ok, Err, Option, refl, sym, ap, subst, ◌∙◌, append_assoc}
use Rattle.std.proofs.Common.{take-append-drop, append-nil, suc, arith}
use Rattle.std.proofs.lemmas.List.{take_all, length-map, length-take-le}
use denote.Ref.{Bor}
use Rattle.std.specs.declared.io.ErrorKind.{ErrorKind}
use Rattle.sparse_coo_dense.specs.Coo.{Coo}
use Rattle.sparse_parser.specs.Meaning.{Means}
use Rattle.sparse_io.specs.Written.{IsRefusedWrite}
use Rattle.sparse_parser.specs.declared.error.MatrixMarketErrorKind.{MatrixMarketErrorKind}
use Rattle.sparse_parser.specs.declared.error.MatrixMarketErrorKind.TheVariants as kinds
use Rattle.sparse_expr.specs.PostfixWords.{texts}
use Rattle.sparse_expr.proofs.Postfix.{texts-more}
use Rattle.sparse_expr.specs.InnerRun.{IsLoadedBefore}
use Rattle.sparse_expr.specs.Run.{AllMean, IsFirstRefused, scalar64}

AllMean-push : (ts : List (List ℕ)) (ms : List (Coo ℤ)) (t : List ℕ) (m : Coo ℤ) → AllMean ts ms
    → Means scalar64 t (Ok m) → AllMean (ts ++ t ∷ []) (ms ++ m ∷ [])
AllMean-push [] [] t m all here = (here, tt)
AllMean-push [] (x ∷ ms) t m all here = absurd all
AllMean-push (x ∷ ts) [] t m all here = absurd all
AllMean-push (x ∷ ts) (y ∷ ms) t m all here = (all.0, AllMean-push ts ms t m all.1 here)

module _ (items : List (Bor (List ℕ))) (k : ℕ) (w : Bor (List ℕ)) (inside : k < length items)
    (ms : List (Coo ℤ)) (accepted : AllMean (take k (texts items)) ms) where
  pub AllMean-more : (m : Coo ℤ) (ms' : List (Coo ℤ)) → Means scalar64 (get_or items k w).now (Ok m)
      → ms' ≡ ms ++ m ∷ [] → AllMean (take (k + 1) (texts items)) ms'
  AllMean-more m ms' here e = rw (texts-more items k w inside, e)
      (AllMean-push (take k (texts items)) ms (get_or items k w).now m accepted here)

  pub refused-at : (kind : MatrixMarketErrorKind) → Means scalar64 (get_or items k w).now (Err kind)
      → IsFirstRefused (texts items) (k + 1) kind
  refused-at kind refused = record {
    before = take k (texts items);
    text = (get_or items k w).now;
    after = drop (k + 1) (texts items);
    ms = ms;
    split = sym (take-append-drop (k + 1) (texts items)) ∙ ap (λ l. l ++ drop (k + 1) (texts items))
        (texts-more items k w inside) ∙ append_assoc (take k (texts items))
        ((get_or items k w).now ∷ []) (drop (k + 1) (texts items));
    counted = sym (ap (λ n. n + 1) (length-take-le k (texts items) (rw length-map (omega arith))));
    accepted = accepted;
    refused = refused;
  }

pub AllMean-all : (items : List (Bor (List ℕ))) (k : ℕ) (ms : List (Coo ℤ)) → length items ≤ k
    → AllMean (take k (texts items)) ms → AllMean (texts items) ms
AllMean-all items k ms all accepted = subst (λ l. AllMean l ms)
    (take_all k (texts items) (rw length-map all)) accepted

length-meant : (ts : List (List ℕ)) (ms : List (Coo ℤ)) → AllMean ts ms → length ts ≡ length ms
length-meant [] [] all = refl
length-meant [] (m ∷ ms) all = absurd all
length-meant (t ∷ ts) [] all = absurd all
length-meant (t ∷ ts) (m ∷ ms) all = ap suc (length-meant ts ms all.1)

-- ---- texts that are dropped as they are loaded

module _ (texts : List (List ℕ)) where
  pub none-loaded : IsLoadedBefore texts texts []
  none-loaded = record { before = []; split = refl; meant = tt }

  pub all-loaded : (ms : List (Coo ℤ)) → IsLoadedBefore texts [] ms → AllMean texts ms
  all-loaded ms loaded =
      subst (λ l. AllMean l ms) (sym (loaded.split ∙ append-nil loaded.before)) loaded.meant

  module _ (rest rest' : List (List ℕ)) (text : List ℕ) (next : rest ≡ text ∷ rest')
      (ms : List (Coo ℤ)) (loaded : IsLoadedBefore texts rest ms) where
    pub one-more-loaded : (m : Coo ℤ) → Means scalar64 text (Ok m)
        → IsLoadedBefore texts rest' (ms ++ m ∷ [])
    one-more-loaded m here = record {
      before = loaded.before ++ text ∷ [];
      split = loaded.split ∙ ap (λ l. loaded.before ++ l) next
          ∙ sym (append_assoc loaded.before (text ∷ []) rest');
      meant = AllMean-push loaded.before ms text m loaded.meant here;
    }

    pub next-refused : (number : ℕ) (kind : MatrixMarketErrorKind) → number ≡ length ms + 1
        → Means scalar64 text (Err kind) → IsFirstRefused texts number kind
    next-refused number kind counted refused = record {
      before = loaded.before;
      text = text;
      after = rest';
      ms = ms;
      split = loaded.split ∙ ap (λ l. loaded.before ++ l) next;
      counted = counted ∙ ap (λ n. n + 1) (sym (length-meant loaded.before ms loaded.meant));
      accepted = loaded.meant;
      refused = refused;
    }

-- where writing ends with an error that is not the sink's, no write failed
pub memory-refused : (kind : MatrixMarketErrorKind) (before after : ℕ) (last : Option ErrorKind)
    → IsRefusedWrite kind before after last → ((k : ErrorKind) → kind ≡ kinds.IOError k → ⊥)
    → after ≡ before
memory-refused kinds.OutOfMemory before after last h other = h
memory-refused (kinds.IOError k) before after last h other = absurd (other k refl)
memory-refused kinds.ParsingError before after last h other = absurd h
memory-refused kinds.InvalidHeader before after last h other = absurd h
memory-refused kinds.EntryMismatch before after last h other = absurd h
memory-refused kinds.TypeMismatch before after last h other = absurd h
memory-refused kinds.ZeroError before after last h other = absurd h
memory-refused (kinds.SparseFormatError k) before after last h other = absurd h
memory-refused kinds.DiagonalError before after last h other = absurd h
memory-refused kinds.NotLowerTriangle before after last h other = absurd h
memory-refused kinds.NonSquare before after last h other = absurd h

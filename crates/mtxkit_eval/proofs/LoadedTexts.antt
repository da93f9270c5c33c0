-- Texts loaded one after the other, as matrices with exact sums.
use Rattle.std.proofs.Common.{◌≡◌, ℕ, ◌+◌, ◌<◌, ◌≤◌, List, [], ◌∷◌, ◌++◌, length, map, take, drop, get_or}
use Rattle.std.proofs.Common.{sym, ap, subst, ◌∙◌, append_assoc, take-append-drop, arith}
use Rattle.std.proofs.lemmas.List.{map-append, take_all, take_more, length-map, length-take-le}
use Rattle.sparse_algebra.specs.declared.scalar.wide.W128.{W128}
use Rattle.sparse_compressed.specs.Compressed.{Compressed}
use Rattle.mtxkit_texts.specs.Loaded.{IsWholeFailure}
use Rattle.mtxkit_texts.specs.declared.failure.Failure.{Failure}
use Rattle.mtxkit_eval.specs.Evaluated.{AllMeanWhole, IsFirstFailed, IsMeantBy}

AllMeanWhole-push : (ts : List (List ℕ)) (ms : List (Compressed W128)) (t : List ℕ) (m : Compressed W128)
    → AllMeanWhole ts ms → IsMeantBy t m → AllMeanWhole (ts ++ t ∷ []) (ms ++ m ∷ [])
AllMeanWhole-push [] [] t m all here = (here, tt)
AllMeanWhole-push [] (x ∷ ms) t m all here = absurd all
AllMeanWhole-push (x ∷ ts) [] t m all here = absurd all
AllMeanWhole-push (x ∷ ts) (y ∷ ms) t m all here = (all.0, AllMeanWhole-push ts ms t m all.1 here)

module _ {A : Type 0} (bytes : A → List ℕ) (items : List A) (k : ℕ) (w : A) (inside : k < length items)
    (ms : List (Compressed W128)) (accepted : AllMeanWhole (map bytes (take k items)) ms) where
  texts-more : map bytes (take (k + 1) items) ≡ map bytes (take k items) ++ bytes (get_or items k w) ∷ []
  texts-more = ap (map bytes) (take_more items k w inside)
      ∙ map-append bytes (take k items) (get_or items k w ∷ [])

  pub one-more-meant : (m : Compressed W128) (more : List (Compressed W128))
      → IsMeantBy (bytes (get_or items k w)) m → more ≡ ms ++ m ∷ []
      → AllMeanWhole (map bytes (take (k + 1) items)) more
  one-more-meant m more here e = rw (texts-more, e)
      (AllMeanWhole-push (map bytes (take k items)) ms (bytes (get_or items k w)) m accepted here)

  pub first-failed : (failure : Failure) → IsWholeFailure (k + 1) (bytes (get_or items k w)) failure
      → IsFirstFailed (map bytes items) failure
  first-failed failure failed =
      let long : length (map bytes (take k items)) ≡ k = length-map (take k items) bytes
      ∙ length-take-le k items (omega (arith, inside)) in
      record {
        before = map bytes (take k items);
        text = bytes (get_or items k w);
        after = map bytes (drop (k + 1) items);
        inputs = ms;
        split = sym (ap (map bytes) (take-append-drop (k + 1) items))
            ∙ map-append bytes (take (k + 1) items) (drop (k + 1) items)
            ∙ ap (λ l. l ++ map bytes (drop (k + 1) items)) texts-more
            ∙ append_assoc (map bytes (take k items)) (bytes (get_or items k w) ∷ [])
            (map bytes (drop (k + 1) items));
        meant = accepted;
        failed = subst (λ n. IsWholeFailure (n + 1) (bytes (get_or items k w)) failure) (sym long)
            failed;
      }

pub all-meant : {A : Type 0} (bytes : A → List ℕ) (items : List A) (k : ℕ)
    (ms : List (Compressed W128)) → length items ≤ k → AllMeanWhole (map bytes (take k items)) ms
    → AllMeanWhole (map bytes items) ms
all-meant bytes items k ms past accepted =
    subst (λ l. AllMeanWhole (map bytes l) ms) (take_all k items past) accepted

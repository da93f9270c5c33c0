-- The record of files that were read one after the other.
use Rattle.std.proofs.Common.{◌≡◌, ◌+◌, ◌<◌, ◌≤◌, ℕ, List, [], ◌∷◌, ◌++◌, Ok, map, length, take, drop, get_or}
use Rattle.std.proofs.Common.{refl, sym, ap, subst, ◌∙◌, append_assoc, take-append-drop, length-append, arith}
use Rattle.std.proofs.lemmas.List.{map-append, take_all, take_more, length-map, length-take-le}
use Rattle.std.specs.declared.io.Error.{Error}
use denote.Ref.{Bor}
use Rattle.file_readings.specs.Readings.{Reading, IsRead, IsUnread, AreRead, IsFirstUnread}
use Rattle.file_readings.specs.Readings.{after_reading}

-- the record of a file, whose text is `p'`
pub one_read : (file : List ℕ) (r s : List Reading) (p p' : List ℕ) → IsRead file r s p → p' ≡ p
    → s ≡ (file, Ok p') ∷ r
one_read file r s p p' e ep = rw (e, ep) refl

-- the record of two files, whose texts are `p'` and `q'`
pub two_read : (a b : List ℕ) (r s t : List Reading) (p q p' q' : List ℕ)
    → IsRead a r s p → IsRead b s t q → p' ≡ p → q' ≡ q
    → t ≡ (b, Ok q') ∷ (a, Ok p') ∷ r
two_read a b r s t p q p' q' e f ep eq = rw (f, e, ep, eq) refl

-- the record of three files, whose texts are `p'`, `q'` and `w'`
pub three-read : (a x b : List ℕ) (r s t u : List Reading) (p q w p' q' w' : List ℕ)
    → IsRead a r s p → IsRead x s t q → IsRead b t u w → p' ≡ p → q' ≡ q → w' ≡ w
    → u ≡ (b, Ok w') ∷ (x, Ok q') ∷ (a, Ok p') ∷ r
three-read a x b r s t u p q w p' q' w' e f g ep eq ew = rw (g, f, e, ep, eq, ew) refl

-- ---- any number of files

after-more : (ps ts : List (List ℕ)) (p t : List ℕ) (old : List Reading) → length ts ≡ length ps
    → after_reading (ps ++ p ∷ []) (ts ++ t ∷ []) old ≡ (p, Ok t) ∷ after_reading ps ts old
after-more [] [] p t old e = refl
after-more [] (s ∷ ts) p t old e = absurd (omega (arith, e))
after-more (q ∷ ps) [] p t old e = absurd (omega (arith, e))
after-more (q ∷ ps) (s ∷ ts) p t old e =
    after-more ps ts p t ((q, Ok s) ∷ old) (omega (arith, e))

pub none-read : (old new : List Reading) → new ≡ old → AreRead [] [] old new
none-read old new e = record { counted = refl; readings = e }

-- the bytes of borrowed paths
abbrev pub paths : List (Bor (List ℕ)) → List (List ℕ)
paths files = map (λ file. file.now) files

-- the files before file k were read
module _ (files : List (Bor (List ℕ))) (k : ℕ) (w : Bor (List ℕ)) (inside : k < length files)
    (ts : List (List ℕ)) (old middle new : List Reading)
    (read : AreRead (paths (take k files)) ts old middle) where
  paths-more : paths (take (k + 1) files) ≡ paths (take k files) ++ (get_or files k w).now ∷ []
  paths-more = ap paths (take_more files k w inside)
      ∙ map-append (λ (file : Bor (List ℕ)). file.now) (take k files) (get_or files k w ∷ [])

  pub one-more-read : (t : List ℕ) (more : List (List ℕ)) → IsRead (get_or files k w).now middle new t
      → more ≡ ts ++ t ∷ [] → AreRead (paths (take (k + 1) files)) more old new
  one-more-read t more here e =
      let before = paths (take k files) in
      let path = (get_or files k w).now in
      let counted = read.counted in
      rw (paths-more, e) (record {
        counted = length-append ts (t ∷ []) ∙ ap (λ n. n + 1) counted
            ∙ sym (length-append before (path ∷ []));
        readings = here ∙ ap (λ rest. (path, Ok t) ∷ rest) read.readings
            ∙ sym (after-more before ts path t old counted);
      })

  pub first-unread : {F : Type 0} (fault : ℕ → Error → F) (failure : F)
      → IsUnread fault (k + 1) (get_or files k w).now middle new failure
      → IsFirstUnread fault (paths files) old new failure
  first-unread fault failure unread =
      let long : length (paths (take k files)) ≡ k =
      length-map (take k files) (λ (file : Bor (List ℕ)). file.now)
      ∙ length-take-le k files (omega (arith, inside)) in
      record {
        before = paths (take k files);
        path = (get_or files k w).now;
        after = paths (drop (k + 1) files);
        texts = ts;
        middle = middle;
        split = sym (ap paths (take-append-drop (k + 1) files))
            ∙ map-append (λ (file : Bor (List ℕ)). file.now) (take (k + 1) files) (drop (k + 1) files)
            ∙ ap (λ l. l ++ paths (drop (k + 1) files)) paths-more
            ∙ append_assoc (paths (take k files)) ((get_or files k w).now ∷ [])
            (paths (drop (k + 1) files));
        read = read;
        unread = subst (λ n. IsUnread fault (n + 1) (get_or files k w).now middle new failure)
            (sym long) unread;
      }

pub all-read : (files : List (Bor (List ℕ))) (k : ℕ) (ts : List (List ℕ)) (old new : List Reading)
    → length files ≤ k → AreRead (paths (take k files)) ts old new → AreRead (paths files) ts old new
all-read files k ts old new past read =
    subst (λ l. AreRead (paths l) ts old new) (take_all k files past) read

-- Writing the text of a matrix line by line through a buffer.
use Rattle.std.proofs.Common.{◌≡◌, ℕ, List, [], ◌∷◌, ◌++◌, Option, refl, sym, ap, ◌∙◌, subst}
use Rattle.std.proofs.Common.{append_assoc, append-nil, length, Result, Ok, Err, OnOk}
use Rattle.std.specs.Prelude.{OnErr}
use Rattle.std.specs.List.{flat_map}
use Rattle.std.specs.Io.KnownBytes.{Appends}
use Rattle.std.proofs.KnownBytes.{Appends-nil, Appends-trans}
use Rattle.std.proofs.lemmas.List.Concat.{flat_map-append}
use Rattle.sparse_coo_dense.specs.Coo.{Coo}
use Rattle.sparse_io.specs.Sink.{AppendsSome}
use Rattle.sparse_io.specs.declared.banner.Banner.{Banner}
use Rattle.sparse_io.specs.Written.{heading_with, size_line, triplet_line, written_text_with, text_with}
use Rattle.sparse_io.specs.InnerWriting.{head_of, IsBuffered}

-- d is appended to a list that is split into b and c, where c and d are split into e and f
middle : (a b c d e f : List ℕ) → a ≡ b ++ c → c ++ d ≡ e ++ f → a ++ d ≡ (b ++ e) ++ f
middle a b c d e f p q = ap (λ l. l ++ d) p ∙ append_assoc b c d ∙ ap (λ l. b ++ l) q
    ∙ sym (append_assoc b e f)

abbrev Triplets : Type 0 → Type 0
Triplets V = List (ℕ × ℕ × V)

abbrev lines : {V : Type 0} → (V → List ℕ) → Triplets V → List ℕ
lines text ts = flat_map (triplet_line text) ts

module _ {V : Type 0} (banner : Banner) (name : List ℕ) (text : V → List ℕ) (m : Coo V) where
  abbrev begun : Triplets V → List ℕ
  begun ts = head_of banner name m ++ lines text ts

  -- the bytes are the head and the lines of all triplets but those left
  pub record IsBegun (bytes : List ℕ) (left : Triplets V) : Type 0 where
    pub leading : Triplets V
    pub order : m.triplets ≡ leading ++ left
    pub is : bytes ≡ begun leading

  -- these bytes went to the sink, except those that the buffer holds
  pub record IsWriting (old new : Option (List ℕ)) (buffer : List ℕ) (left : Triplets V) : Type
      0 where
    pub bytes : List ℕ
    pub begun : IsBegun bytes left
    pub buffered : IsBuffered old new buffer bytes

module _ {V : Type 0} {banner : Banner} {name : List ℕ} {text : V → List ℕ} {m : Coo V} where
  pub IsBegun-none : {bytes : List ℕ} {left : Triplets V} → bytes ≡ head_of banner name m → left ≡ m.triplets
      → IsBegun banner name text m bytes left
  IsBegun-none b l = record {
    leading = [];
    order = sym l;
    is = b
        ∙ sym (append-nil (head_of banner name m));
  }

  pub IsBegun-more : {bytes : List ℕ} {t : ℕ × ℕ × V} {left left' : Triplets V} → IsBegun banner name text m bytes left
      → left ≡ t ∷ left'
      → IsBegun banner name text m (bytes ++ triplet_line text t) left'
  IsBegun-more {bytes} {t} {left} {left'} b e =
      record {
        leading = b.leading ++ t ∷ [];
        order = b.order ∙ ap (λ ts. b.leading ++ ts) e ∙ sym (append_assoc b.leading (t ∷ []) left');
        is = ap (λ l. l ++ triplet_line text t) b.is ∙ append_assoc (head_of banner name m) (lines text b.leading)
            (triplet_line text t)
            ∙ ap (λ l. head_of banner name m ++ (lines text b.leading ++ l))
            (sym (append-nil (triplet_line text t)))
            ∙ ap (λ l. head_of banner name m ++ l)
            (sym (flat_map-append (triplet_line text) b.leading (t ∷ [])));
      }

  -- the text continues with the lines of the triplets left
  pub text_with-begun : {bytes : List ℕ} {left : Triplets V} → IsBegun banner name text m bytes left
      → text_with banner name text m ≡ bytes ++ lines text left
  unfolding written_text_with
  text_with-begun {bytes} {left} b =
      sym (append_assoc (heading_with banner name) (size_line m.nrows m.ncols (length m.triplets))
      (lines text m.triplets))
      ∙ ap (begun banner name text m) b.order ∙ ap (λ l. head_of banner name m ++ l)
      (flat_map-append (triplet_line text) b.leading left)
      ∙ sym (append_assoc (head_of banner name m) (lines text b.leading) (lines text left))
      ∙ ap (λ l. l ++ lines text left) (sym b.is)

  pub IsBegun-all : {bytes : List ℕ} {left : Triplets V} → IsBegun banner name text m bytes left → left ≡ []
      → bytes ≡ text_with banner name text m
  IsBegun-all {bytes} b none = sym (text_with-begun b
      ∙ ap (λ ts. bytes ++ lines text ts) none ∙ append-nil bytes)

  pub IsWriting-none : {old : Option (List ℕ)} {buffer : List ℕ} {left : Triplets V}
      → buffer ≡ head_of banner name m → left ≡ m.triplets → IsWriting banner name text m old old buffer left
  IsWriting-none {old} {buffer} b l =
      record {
        bytes = buffer;
        begun = IsBegun-none b l;
        buffered =
            record { done = []; parts = refl; appended = Appends-nil old };
      }

  pub IsWriting-more : {old mid new : Option (List ℕ)} {buffer buffer' : List ℕ} {t : ℕ × ℕ × V}
      {left left' : Triplets V}
      → IsWriting banner name text m old mid buffer left
      → left ≡ t ∷ left' → IsBuffered mid new buffer' (buffer ++ triplet_line text t)
      → IsWriting banner name text m old new buffer' left'
  IsWriting-more {old} {mid} {new} {buffer} {buffer'} {t} w e b =
      let d = w.buffered in
      record {
        bytes = w.bytes ++ triplet_line text t;
        begun = IsBegun-more w.begun e;
        buffered = record {
          done = d.done ++ b.done;
          parts = middle w.bytes d.done buffer (triplet_line text t) b.done buffer' d.parts b.parts;
          appended = Appends-trans old mid new d.done b.done d.appended b.appended;
        };
      }

  -- the text is written once the sink has accepted the buffer and no triplet is left
  pub IsWriting-all : (new : Option (List ℕ)) {old mid : Option (List ℕ)} {buffer : List ℕ} {left : Triplets V}
      → IsWriting banner name text m old mid buffer left
      → left ≡ [] → Appends mid new buffer → Appends old new (text_with banner name text m)
  IsWriting-all new {old} {mid} {buffer} w none h =
      let d = w.buffered in
      subst (Appends old new) (sym d.parts ∙ IsBegun-all w.begun none)
      (Appends-trans old mid new d.done buffer d.appended h)

  -- a prefix of the text is written if the sink accepts a prefix of the buffer
  pub IsWriting-refused : {old mid new : Option (List ℕ)} {buffer : List ℕ} {left : Triplets V}
      → IsWriting banner name text m old mid buffer left
      → AppendsSome mid new buffer → AppendsSome old new (text_with banner name text m)
  IsWriting-refused {old} {mid} {new} {buffer} {left} w h =
      let d = w.buffered in
      let more = lines text left in
      record {
        done = d.done ++ h.done;
        rest = h.rest ++ more;
        parts = text_with-begun w.begun
            ∙ middle w.bytes d.done buffer more h.done (h.rest ++ more) d.parts
            (ap (λ l. l ++ more) h.parts ∙ append_assoc h.done h.rest more);
        appended = Appends-trans old mid new d.done h.done d.appended h.appended;
      }

-- all of the bytes, and none of them, are a prefix of the bytes
pub AppendsSome-all : (old new : Option (List ℕ)) (bytes : List ℕ) → Appends old new bytes
    → AppendsSome old new bytes
AppendsSome-all old new bytes h = record {
  done = bytes;
  rest = [];
  parts = sym (append-nil bytes);
  appended = h;
}

pub AppendsSome-none : (old : Option (List ℕ)) (bytes : List ℕ) → AppendsSome old old bytes
AppendsSome-none old bytes = record {
  done = [];
  rest = bytes;
  parts = refl;
  appended =
      Appends-nil old;
}

-- a consequence of what holds on success, or on failure
pub on_ok-map : {A E P Q : Type 0} (r : Result A E) → (P → Q) → OnOk r P → OnOk r Q
on_ok-map (Ok x) f h = f h
on_ok-map (Err e) f h = h

pub on_err-map : {A E P Q : Type 0} (r : Result A E) → (P → Q) → OnErr r P → OnErr r Q
on_err-map (Ok x) f h = h
on_err-map (Err e) f h = f h

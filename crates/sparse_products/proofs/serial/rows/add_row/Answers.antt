use Rattle.std.proofs.Common.{inl, inr, refl, ap, ◌∙◌, arith}
use Rattle.sparse_algebra.proofs.RingLemmas.{zero_add}
use Rattle.sparse_pattern.proofs.BuiltLanes.{minor_index_below}
use Rattle.sparse_products.specs.InnerOperands.{product_of}
use Rattle.sparse_products.proofs.serial.rows.add_row.Goals as goal

pub add_product_row-requires-clause-row_sums : goal.add_product_row-requires-clause-row_sums
add_product_row-requires-clause-row_sums g c = λ j h.
    let b = c.args.matrices.b.now.pattern in
    let below = minor_index_below b c.values.ensures.sound.valid h.0 j h.2 in (
      j,
      (c.requires.empty.room j (omega (arith, below)), refl),
      omega (arith, below, c.requires.width),
    )

pub returns-clause-room : goal.returns-clause-room
returns-clause-room g c = λ j has.
    ((c.add_product_row.ensures.noted.kept j j).1 (has, refl)).0

pub returns-clause-met : goal.returns-clause-met
returns-clause-met g c = λ j.
    let noted = c.add_product_row.ensures.noted.noted j in (
      λ h. elim (noted.0 h) [ inl was ↦ absurd (c.requires.empty.empty j was) | inr met ↦ met ],
      λ h. noted.1 (inr h),
    )

pub returns-clause-added : goal.returns-clause-added
returns-clause-added g c = λ j lt.
    let R = g.T.Ring.ring in
    let f = g.T.Ring.value in
    let x = (product_of R f c.args.matrices).value c.args.i j in
    let unit = f c.one.result in
    c.add_product_row.ensures.added.added j j
    (c.requires.empty.room j (omega (arith, c.requires.width)), refl) lt
    ∙ ap (λ y. R.add y (R.mul unit x)) (c.requires.zero j) ∙ zero_add R (R.mul unit x)
    ∙ ap (λ u. R.mul u x) c.one.ensures ∙ R.laws.mul_comm R.one x ∙ R.laws.mul_one x

pub returns-clause-bounded : goal.returns-clause-bounded
returns-clause-bounded g c = λ j h. omega (
  arith,
  minor_index_below c.args.matrices.b.now.pattern c.values.ensures.sound.valid h.0 j h.2,
  c.requires.width,
)

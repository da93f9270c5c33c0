use Rattle.std.proofs.Common.{◌≡◌, ◌-◌, length, map, slice_index, refl, ◌∙◌, inl, inr, arith}
use Rattle.sparse_factor.proofs.Children.{link_at, IsOnList-none}
use Rattle.sparse_factor.proofs.MergedTails.{no_tails_merged, longest_past, tail_counted, tail_merged}
use Rattle.sparse_factor.proofs.AddedRows.{counted_superset}
use Rattle.sparse_factor.proofs.factorization.columns.children.merge_tails.Given.{Over}
use Rattle.sparse_factor.proofs.factorization.columns.children.merge_tails.Goals as goal
use Rattle.sparse_factor.proofs.factorization.columns.children.merge_tails.Goals.{After-get-head}
use Rattle.sparse_factor.proofs.factorization.columns.children.merge_tails.Goals.{then-head-longest+in_ok-merge_tail_of}
use Rattle.sparse_factor.proofs.factorization.columns.children.merge_tails.Goals.{else-head-longest}

pub loop-head-init : goal.loop-head-init
loop-head-init g c = record {
  tails_merged = no_tails_merged c.args.columns.now.offsets.items c.args.columns.now.rows.items
      (map g.C.Count.number c.args.nexts.now) c.args.children.0 c.args.children.1
      c.args.added.now.rows.items c.args.steps.now c.requires.first;
  count = refl;
  marked = c.requires.marked;
}

link : (g : Over) (c : After-get-head g) → c.get-head.result
    ≡ slice_index (map g.C.Count.number c.args.nexts.now) (c.loop-head.head - 1)
link g c =
    link_at g.C.Count.number c.args.nexts.now (length c.args.columns.now.offsets.items)
    c.loop-head.head c.loop-head-test.true c.loop-head.invariant.tails_merged.within c.requires.linked
    c.index-nexts-head.is c.get-head.ensures

pub loop-head-preserved : goal.loop-head-preserved
loop-head-preserved g c =
    let offsets = c.args.columns.now.offsets.items in
    let rows = c.args.columns.now.rows.items in
    let nexts = map g.C.Count.number c.args.nexts.now in
    let (first, longest) = c.args.children in
    let old = c.args.added.now.rows.items in
    let l = c.loop-head in
    let inv = l.invariant in
    let read = link g (goal.at.loop-head-preserved g c).After-get-head in
    elim c.if-head-longest.branch [
      | then-head-longest+in_ok-merge_tail_of w ↦
          let took = w.merge_tail_of.ensures in
          rw (w.added-is, w.steps-is) record {
            tails_merged = tail_merged offsets rows nexts first longest old c.args.steps.now
                l.added.rows.items l.steps l.head c.get-head.result inv.tails_merged
                c.requires.falling c.loop-head-test.true read w.if-head-longest.true
                w.merge_tail_of.new.steps took.counted w.merge_tail_of.new.added.rows.items
                w.in_ok-merge_tail_of.ensures.rows;
            count = took.count ∙ inv.count;
            marked = took.marked;
          }
      | else-head-longest w ↦ rw (w.added-is, w.steps-is) record {
        tails_merged = longest_past offsets rows nexts first longest old c.args.steps.now
            l.added.rows.items l.steps l.head c.get-head.result inv.tails_merged
            c.requires.falling c.loop-head-test.true read w.if-head-longest.false;
        count = inv.count;
        marked = inv.marked;
      }
    ]

pub loop-head-smaller : goal.loop-head-smaller
loop-head-smaller g c = omega (
  arith,
  link g (goal.at.loop-head-smaller g c).After-get-head,
  c.requires.falling (c.loop-head.head - 1),
  c.loop-head-test.true,
)

pub returns-in_err-merge_tail_of-clause-added : goal.returns-in_err-merge_tail_of-clause-added
returns-in_err-merge_tail_of-clause-added g c =
    let nexts = map g.C.Count.number c.args.nexts.now in
    let l = c.loop-head in
    counted_superset (λ i k h. h.0) (tail_counted c.args.columns.now.offsets.items
    c.args.columns.now.rows.items nexts c.args.children.0 c.args.children.1
    c.args.added.now.rows.items c.args.steps.now l.added.rows.items l.steps l.head
    (slice_index nexts (l.head - 1)) l.invariant.tails_merged c.requires.falling
    c.loop-head-test.true refl c.if-head-longest.true c.merge_tail_of.new.steps
    c.merge_tail_of.ensures.counted)

pub returns-clause-rows : goal.returns-clause-rows
returns-clause-rows g c =
    let are = c.loop-head.invariant.tails_merged in
    record {
      kept = are.kept;
      sound = are.sound;
      whole = λ i k r ne tail. elim (are.whole i k r ne tail) [
        | inl has ↦ has
        | inr more ↦ absurd (IsOnList-none more c.loop-head-test.false)
      ];
    }

pub returns-clause-added : goal.returns-clause-added
returns-clause-added g c = counted_superset (λ i k h. h.0) c.loop-head.invariant.tails_merged.added

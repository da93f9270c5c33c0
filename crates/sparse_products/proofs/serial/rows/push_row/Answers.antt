use Rattle.std.proofs.lemmas.Grind.{common_steps}
use Rattle.std.proofs.Common.{◌≡◌, ◌<◌, ℕ, ◌∷◌, [], ◌++◌, length}
use Rattle.std.proofs.Common.{get_or, drop, ap, ◌∙◌, refl, arith}
use Rattle.std.proofs.lemmas.List.{drop_at}
use Rattle.std.proofs.lemmas.List.Elements.{Contains-get_or}
use Rattle.sparse_pattern.specs.InnerGainedLanes.{GainsLane}
use Rattle.sparse_products.specs.InnerProducts.{IsInRow}
use Rattle.sparse_sums.proofs.GainedLanes.{gains_same}
use Rattle.sparse_products.proofs.LaneParts.{tail_is}
use Rattle.sparse_products.specs.InnerOperands.{product_of}
use Rattle.sparse_products.proofs.ProductRows.{zero_off}
use Rattle.sparse_products.proofs.ExtractedRows.{left_zero, values_extracted}
use Rattle.sparse_products.proofs.serial.rows.push_row.Goals as goal

pub extract_values-requires : goal.extract_values-requires
extract_values-requires g c =
    let old = c.args.rows.now.indices.items in
    let gains : GainsLane old c.drain_into.new.indices.items (IsInRow c.args.matrices c.args.i) =
    gains_same c.add_row.ensures.met c.in_ok-drain_into.ensures.pushed in
    let begin : length old ≡ c.len-begin.result =
    omega (arith, c.len-begin.ensures, c.args.rows.now.indices.ok.0) in
    let tail = tail_is c.deref.result.now old gains.lane c.len-begin.result begin
    (c.deref.ensures.value ∙ gains.pushed) in
    record {
      rising = rw tail gains.rising;
      inside = rw tail (λ k d lt. omega (
        arith,
        c.add_row.ensures.bounded (get_or gains.lane k d)
            ((gains.holds (get_or gains.lane k d)).0 (Contains-get_or gains.lane k d lt)),
        c.add_row.auto.row,
      ));
      room = grind (arith, common_steps);
    }

pub returns : goal.returns
returns g c =
    let R = g.T.Ring.ring in
    let f = g.T.Ring.value in
    let z = g.T.Zero.zero_value in
    let sa = c.values.ensures.sound in
    let sb = c.values-2.ensures.sound in
    let i = c.args.i in
    let x = (product_of R f c.args.matrices).value i in
    let row = c.add_row.new.row in
    let is_row : (j : ℕ) → j < length row → f (get_or row j z) ≡ x j = λ j lt.
    c.add_row.ensures.added j (omega (arith, lt, c.add_row.auto.row)) in
    let old = c.args.rows.now.indices.items in
    let gains : GainsLane old c.drain_into.new.indices.items (IsInRow c.args.matrices i) =
    gains_same c.add_row.ensures.met c.in_ok-drain_into.ensures.pushed in
    let begin : length old ≡ c.len-begin.result =
    omega (arith, c.len-begin.ensures, c.args.rows.now.indices.ok.0) in
    let tail = tail_is c.deref.result.now old gains.lane c.len-begin.result begin
    (c.deref.ensures.value ∙ gains.pushed) in
    let lane : drop (length old) c.drain_into.new.indices.items ≡ gains.lane =
    ap (λ l. drop (length old) l) gains.pushed ∙ drop_at old gains.lane (length old) refl in
    let extracted = rw tail at c.extract_values.ensures.extracted in
    let pushed = rw (tail, c.in_ok-reserve.ensures.items) at c.extract_values.ensures.pushed in
    record {
      empty = record {
        room = λ j lt. c.in_ok-drain_into.ensures.room j
            (c.add_row.ensures.room j (c.requires.empty.room j lt));
        empty = c.in_ok-drain_into.ensures.empty;
      };
      zero = left_zero R f x g.met.T.Ring.zero_law (zero_off R f sa sb c.requires.inner i
          c.requires.lane gains.lane (λ j. (gains.holds j).1)) is_row extracted;
      lane = gains;
      offset = c.in_ok-push.ensures.items ∙ ap (λ n. c.args.rows.now.offsets.items ++ n ∷ [])
          (c.len.ensures ∙ c.drain_into.new.indices.ok.0);
      values = rw lane (values_extracted row pushed (λ q lt. is_row (get_or gains.lane q 0)
          (omega (
            arith,
            c.add_row.ensures.bounded (get_or gains.lane q 0)
                ((gains.holds (get_or gains.lane q 0)).0 (Contains-get_or gains.lane q 0 lt)),
            c.add_row.auto.row,
          ))));
    }

use Rattle.std.proofs.Common.{◌≡◌, ◌<◌, length, map, replicate, ℕ, refl, sym, arith}
use Rattle.std.proofs.lemmas.Grind.{same_number_lists}
use Rattle.std.proofs.lemmas.List.{length-map, length-replicate, get_or-map, get_or-replicate}
use Rattle.sparse_factor.proofs.factorization.columns.zeros.Goals as goal

pub of-requires : goal.of-requires
of-requires g c = c.requires

pub returns : goal.returns
returns g c =
    let f = g.C.Count.number in
    let xs = c.resize.new.self.items in
    let size : length xs ≡ c.args.size = omega
    (arith, c.resize.new.self.ok.0, c.in_ok-resize.ensures.len) in
    let zeros = c.in_ok-resize.ensures.by_index.1 in
    same_number_lists (map f xs) (replicate c.args.size 0)
    (omega (arith, length-map xs f, size, length-replicate {A = ℕ} c.args.size 0)) (λ k lt.
    let inside : k < length xs = omega (arith, length-map xs f) in
    let room = c.in_ok-zeros.ensures.len in
    let zero = zeros k c.of.result refl (omega (arith, room)) (omega (arith, size)) in
    rw (get_or-map f xs k c.of.result 0 inside, zero, c.of.ensures)
    (sym (get_or-replicate {A = ℕ} c.args.size k 0 0 (omega (arith, size)))))

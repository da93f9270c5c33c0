use Rattle.std.proofs.Common.{◌≡◌, ◌++◌, List, ℕ, append_assoc, string_bytes}
use Rattle.mtxkit_facts.specs.FactJson.{json_rows}
use Rattle.mtxkit_facts.proofs.fact_json.push_rows.Goals as goal

-- a text to which four texts were appended
joined : (old x y z w : List ℕ) {a b c d : List ℕ} → a ≡ old ++ x → b ≡ a ++ y → c ≡ b ++ z
    → d ≡ c ++ w → d ≡ old ++ (x ++ (y ++ (z ++ w)))
joined old x y z w e f g h = rw (h, g, f, e) (regroup old x y z w)
  where
    regroup : (old x y z w : List ℕ)
        → (((old ++ x) ++ y) ++ z) ++ w ≡ old ++ (x ++ (y ++ (z ++ w)))
    regroup old x y z w = simp append_assoc

pub returns : goal.returns
unfolding json_rows
returns c = joined (string_bytes c.args.json.now) _ _ _ _ c.in_ok-push_str.ensures.bytes
    c.in_ok-push_bars.ensures c.in_ok-push_str-2.ensures.bytes c.in_ok-push_end.ensures

-- How many items a walk holds, whatever its arithmetic.
use Rattle.std.specs.Prelude.{◌≡◌, ℕ, ◌+◌, ◌-◌, ◌≤◌, max, List, [], ◌∷◌, length, take, Ok}
use Rattle.expression.specs.declared.nodes.Node.{Node}
use Rattle.expression.specs.declared.nodes.Node.TheVariants.{Constant, Variable, Read, Unary, Binary, Concatenate}
use Rattle.expression.specs.declared.nodes.Span.{Span}
use Rattle.expression.specs.Walk.{Arith, most_items, runs, spanned, walked}

-- the items held after a node, of h before it
abbrev pub after_node : Node → ℕ → ℕ
after_node (Constant c) h = h + 1
after_node (Variable v) h = h + 1
after_node (Read r) h = h
after_node (Unary o) h = h
after_node (Binary o) h = h - 1
after_node Concatenate h = h - 1

-- the most held at once, of h before the first node
abbrev pub peak : ℕ → List Node → ℕ
peak h [] = h
peak h (n ∷ ns) = max h (peak (after_node n h) ns)

-- After any number of nodes a walk holds no more than the peak of its nodes; and where it gives an item, the peak is at
-- most 32.
pub record Peaks {I F : Type 0} (a : Arith I F) : Type 0 where
  pub no_more : (nodes : List Node) (s : Span) (k : ℕ) (held : List I) → runs a s.first (take k (spanned nodes s)) [] ≡ Ok held → length held ≤ peak 0 (spanned nodes s)
  pub in_room : (nodes : List Node) (s : Span) (x : I) → walked a nodes s ≡ Ok x → peak 0 (spanned nodes s) ≤ most_items

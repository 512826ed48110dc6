-- Values as items of a walk, each held as its row.
use Rattle.std.specs.Prelude.{List, [], Ok, Err, nat_eq}
use Rattle.answer.specs.First.{◌gives◌else◌}
use Rattle.answer.specs.declared.faults.Fault.{Fault}
use Rattle.answer.specs.declared.faults.Fault.TheVariants.{NoExactValue}
use Rattle.value.specs.declared.rows.Region.{Region}
use Rattle.value.specs.declared.rows.Region.TheVariants.{Cst, Stack}
use Rattle.value.specs.declared.rows.Row.{Row}
use Rattle.value.specs.declared.rows.RegionRecord.{RegionRecord}
use Rattle.value.specs.Rows.{Outcome, sound, plain, width}
use Rattle.operator.specs.declared.ops.BinaryOp.{BinaryOp}
use Rattle.operator.specs.Rules.{applied}
use Rattle.operator.specs.Bits.{changed, concatenated}
use Rattle.expression.specs.declared.nodes.FixedRegion as fixed
use Rattle.expression.specs.declared.nodes.FixedRegion.TheVariants as fixed_regions
use Rattle.expression.specs.declared.nodes.Literal.{Literal}
use Rattle.operator.specs.declared.ops.UnaryOp.{UnaryOp}
use Rattle.expression.specs.Walk.{Arith}
use Rattle.expression.specs.Widths.{literal_fits, Fit, width_unary}

abbrev pub region_of : fixed.FixedRegion → Region
region_of fixed_regions.Cst = Cst
region_of fixed_regions.Stack = Stack

-- the value of a constant, where it is one
abbrev pub constant_row : Literal → Outcome
constant_row c =
    literal_fits c gives Ok (plain (region_of c.region) c.width c.number) else
    Err NoExactValue

-- an operand is a value where its row is a value's
abbrev pub of_value : Row → Outcome → Outcome
of_value x answer =
    sound x gives answer else
    Err NoExactValue

abbrev pub unary_row : UnaryOp → Row → Outcome
unary_row op x = of_value x (changed op x)

-- where the rule of a node of one operand gives a width, an item that the node gives has that width
abbrev pub UnaryFits : Type 0
UnaryFits = (o : UnaryOp) (x : Row) → Fit width (width_unary o (width x)) (unary_row o x)

-- with the malloc regions of the run
abbrev pub binary_row : List RegionRecord → BinaryOp → Row → Row → Outcome
binary_row rs op x y = of_value x (of_value y (applied rs op x y))

abbrev pub joined_row : Row → Row → Outcome
joined_row x y = of_value x (of_value y (concatenated x y))

-- one variable, of which the row is given, and no memory
abbrev pub lone_arith : Row → Arith Row Fault
lone_arith r = record {
  constant = constant_row;
  variable = λ v. nat_eq v 1 gives Ok r else Err NoExactValue;
  memory = Err NoExactValue;
  read = λ access x. Err NoExactValue;
  unary = unary_row;
  binary = binary_row [];
  concatenation = joined_row;
}

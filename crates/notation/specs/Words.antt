-- What words say: an operator, an operator with its operands, and a line.
use Rattle.std.specs.Prelude.{◌≡◌, ℕ, ◌≤◌, false, ◌⊎◌, List, [], ◌∷◌, ◌++◌, length, drop, vec_len, codes, slice_get, Some}
use Rattle.value.specs.declared.rows.RegionRecord.{RegionRecord}
use Rattle.value.specs.declared.values.Value.{Value}
use Rattle.operator.specs.declared.ops.BinaryOp.{BinaryOp}
use Rattle.operator.specs.declared.ops.BinaryOp.TheVariants.{Add, Sub, Mul, And, Or, Divide, Compare}
use Rattle.operator.specs.declared.ops.Division.{Division}
use Rattle.operator.specs.declared.ops.Division.TheVariants.{Quotient, Remainder}
use Rattle.operator.specs.declared.ops.Comparison.{Comparison}
use Rattle.operator.specs.declared.ops.Comparison.TheVariants.{Equal, NotEqual, Ordered}
use Rattle.operator.specs.declared.ops.Order.{Order}
use Rattle.operator.specs.declared.ops.Order.TheVariants.{Less, LessOrEqual, GreaterOrEqual, Greater}
use Rattle.operator.specs.declared.ops.Reading.{Reading}
use Rattle.operator.specs.declared.ops.Reading.TheVariants.{Unsigned, Signed}
use Rattle.operator.specs.declared.ops.UnaryOp.{UnaryOp}
use Rattle.operator.specs.declared.ops.UnaryOp.TheVariants.{Not, Extend, Restrict}
use Rattle.vector.specs.declared.working.Case.{Case}
use Rattle.vector.specs.declared.working.Case.TheVariants.{Binary, Concatenate, Unary}
use Rattle.notation.specs.declared.reading.Entry.{Entry}
use Rattle.notation.specs.declared.reading.Entry.TheVariants.{Nothing, Sizes, Try}
use Rattle.notation.specs.Texts.{Writes, Span, RowText, ResultText}

-- how an operator reads its operands: unsigned, or in two's complement
abbrev pub reading_letter : Reading → List ℕ
reading_letter Unsigned = codes "u"
reading_letter Signed = codes "s"

abbrev pub division_word : Division → List ℕ
division_word (Quotient reading) = codes "/" ++ reading_letter reading
division_word (Remainder reading) = codes "%" ++ reading_letter reading

abbrev pub order_word : Order → List ℕ
order_word Less = codes "<"
order_word LessOrEqual = codes "<="
order_word GreaterOrEqual = codes ">="
order_word Greater = codes ">"

abbrev pub comparison_word : Comparison → List ℕ
comparison_word Equal = codes "="
comparison_word NotEqual = codes "!="
comparison_word (Ordered reading o) = order_word o ++ reading_letter reading

abbrev pub operator_word : BinaryOp → List ℕ
operator_word Add = codes "+"
operator_word Sub = codes "-"
operator_word Mul = codes "*"
operator_word And = codes "and"
operator_word Or = codes "or"
operator_word (Divide d) = division_word d
operator_word (Compare k) = comparison_word k

-- the word and two operands give the case
abbrev pub OfTwo : List ℕ → Value → Value → Case → Type 0
OfTwo w a b (Binary op l r) = (operator_word op ≡ w) × (l ≡ a) × (r ≡ b)
OfTwo w a b (Concatenate l r) = (w ≡ codes "::") × (l ≡ a) × (r ≡ b)
OfTwo w a b (Unary op v) = ⊥

abbrev pub extension_word : Reading → List ℕ
extension_word reading = codes "ext" ++ (reading_letter reading ++ codes ":")

-- the word of an operator of one operand
abbrev pub UnaryWord : List ℕ → UnaryOp → Type 0
UnaryWord w Not = w ≡ codes "not"
UnaryWord w (Extend reading k) = (w ≡ extension_word reading ++ drop 5 w) × Writes (drop 5 w) k
UnaryWord w (Restrict i j) = (rest : List ℕ) × (w ≡ codes "{" ++ rest) × Span rest i j

-- the word and one operand give the case
abbrev pub OfOne : List ℕ → Value → Case → Type 0
OfOne w a (Binary op l r) = ⊥
OfOne w a (Concatenate l r) = ⊥
OfOne w a (Unary op v) = UnaryWord w op × (v ≡ a)

-- a region that a line of sizes makes
abbrev pub Fresh : RegionRecord → Type 0
Fresh g = (1 ≤ g.size) × (g.freed ≡ false)

-- a fresh region of the size that a word gives
abbrev pub OfSize : List ℕ → RegionRecord → Type 0
OfSize w g = Writes w g.size × Fresh g

-- each word gives the size of the region at its place
abbrev pub OfSizes : List (List ℕ) → List RegionRecord → Type 0
OfSizes ws gs = (length gs ≡ length ws) × ((k : ℕ) (w : List ℕ) (g : RegionRecord) → slice_get ws k ≡ Some w → slice_get gs k ≡ Some g → OfSize w g)

-- an operator, its operands and a result
abbrev pub TriesOne : List ℕ → List ℕ → List ℕ → Entry → Type 0
TriesOne op v x Nothing = ⊥
TriesOne op v x (Sizes t) = ⊥
TriesOne op v x (Try c e) = (a : Value) × RowText v a.row × OfOne op a c × ResultText x e

abbrev pub TriesTwo : List ℕ → List ℕ → List ℕ → List ℕ → Entry → Type 0
TriesTwo op v w x Nothing = ⊥
TriesTwo op v w x (Sizes t) = ⊥
TriesTwo op v w x (Try c e) = (a : Value) × (b : Value) × RowText v a.row × RowText w b.row × OfTwo op a b c × ResultText x e

-- what the words of a line give: none, `sizes` and the size of each region, of which there are at most 64, or those of a
-- case with `=` before the result
abbrev pub OfWords : List (List ℕ) → Entry → Type 0
OfWords ws Nothing = length ws ≡ 0
OfWords ws (Sizes t) = (rest : List (List ℕ)) × (ws ≡ codes "sizes" ∷ rest) × OfSizes rest t.items × (vec_len t ≤ 64)
OfWords ws (Try c e) =
    ((op : List ℕ) × (v : List ℕ) × (x : List ℕ) × (ws ≡ op ∷ v ∷ codes "=" ∷ x ∷ []) × TriesOne op v x (Try c e))
    ⊎ ((op : List ℕ) × (v : List ℕ) × (w : List ℕ) × (x : List ℕ) × (ws ≡ op ∷ v ∷ w ∷ codes "=" ∷ x ∷ []) × TriesTwo op v w x (Try c e))

abbrev pub Few : Entry → Type 0
Few Nothing = Unit {0}
Few (Sizes t) = vec_len t ≤ 64
Few (Try c e) = Unit {0}

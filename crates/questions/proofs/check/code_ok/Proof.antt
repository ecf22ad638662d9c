-- `crate::check::code_ok` meets its contract: its two halves are read where the format has them (`code_end`).
-- Assumes nothing.
use Rattle.questions.proofs.check.Keys.{code_end}
use borrow.Author.Rules.{rules}
use Rattle.questions.proofs.check.code_ok.Statement.{statement}
use Rattle.questions.proofs.check.code_ok.Tie as tie

get-u32-requires : tie.Need-get_u32-low-requires
get-u32-requires c κs = search rules

cast-low : tie.Need-overflow_cast-low
cast-low c = search rules

get-u16-requires : tie.Need-get_u16-high-requires
get-u16-requires c κs = search rules

cast-high : tie.Need-overflow_cast-high
cast-high c = search rules

mul-code-key-ok : tie.Need-overflow_mul-high
mul-code-key-ok c = search rules

add-code-key-ok : tie.Need-overflow_add-low
add-code-key-ok c = search rules

code-key-ok-requires : tie.Need-code_key_ok-requires
code-key-ok-requires c κs = search rules

returns : tie.Need-returns
returns c = code_end _ _ _ _ c.get_u32-low.ensures c.get_u16-high.ensures c.code_key_ok.ensures

pub code_ok_spec : {M : Type 1} → statement M
code_ok_spec =
    tie.close
    (tie.spec
    get-u32-requires
    cast-low
    get-u16-requires
    cast-high
    mul-code-key-ok
    add-code-key-ok
    code-key-ok-requires
    returns)

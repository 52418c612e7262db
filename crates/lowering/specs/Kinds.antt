-- A store's root as two numbers. Definitions only.
use Rattle.std.specs.Prelude.{ℕ, Option, None, Some}
use Rattle.program.specs.Image.{VAR_ROOT, TEMP_ROOT, OTHER_ROOT}
use Rattle.lowering.specs.declared.interning.VariableIdx.{VariableIdx}
use Rattle.lowering.specs.declared.interning.VariableIdx.TheVariants.{Name, Temp}

-- 01, The program image: "root 0 Var, 1 Temp, 2 Other; index 2, 0 for Other"
abbrev pub root_kind : Option VariableIdx → ℕ
root_kind (Some (Name n)) = VAR_ROOT
root_kind (Some (Temp n)) = TEMP_ROOT
root_kind None = OTHER_ROOT

abbrev pub root_index : Option VariableIdx → ℕ
root_index (Some (Name n)) = n.0
root_index (Some (Temp n)) = n.0
root_index None = 0

-- The worked examples as one list. Definitions only.
use Rattle.std.specs.Prelude.{List, [], ◌∷◌}
use Rattle.semantics.specs.Example.{Example}
use Rattle.semantics.specs.ExamplesMissing as M
use Rattle.semantics.specs.ExamplesControl as C
use Rattle.semantics.specs.ExamplesHalt as H
use Rattle.semantics.specs.ExamplesRules as R
use Rattle.semantics.specs.ExamplesEvents as E

abbrev pub examples : List Example
examples =
    M.E1 ∷ M.E2 ∷ M.E3 ∷ M.E4 ∷ M.E5 ∷ M.E6 ∷ M.E7 ∷ M.E8 ∷ M.E9 ∷ M.E10 ∷ M.E11 ∷ M.E12 ∷ M.E13 ∷ M.E14
    ∷ C.E15 ∷ C.E16 ∷ C.E17 ∷ C.E18 ∷ C.E19 ∷ C.E20 ∷ C.E21 ∷ C.E22 ∷ C.E23 ∷ C.E24 ∷ C.E25 ∷ C.E26 ∷ C.E27 ∷ C.E28
    ∷ C.E29 ∷ R.E30 ∷ R.E31 ∷ R.E32 ∷ R.E33 ∷ R.E34 ∷ R.E35 ∷ R.E36 ∷ R.E37 ∷ R.E38 ∷ R.E39 ∷ E.E40 ∷ E.E41 ∷ E.E42
    ∷ E.E43 ∷ E.E44 ∷ E.E45 ∷ E.E46 ∷ E.E47 ∷ E.E48 ∷ E.E49
    ∷ H.H1 ∷ H.H2 ∷ H.H3 ∷ H.H4 ∷ H.H5 ∷ H.H6 ∷ H.H7 ∷ H.H8 ∷ H.H9 ∷ H.H10 ∷ H.H11 ∷ H.H12 ∷ H.H13 ∷ H.H14 ∷ H.H15 ∷ []

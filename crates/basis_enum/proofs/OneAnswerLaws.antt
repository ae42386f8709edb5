-- A system has one answer, and want of memory is none of them
use Rattle.std.proofs.Common.{sym, ap₂, ◌∙◌}
use Rattle.answers.specs.Answers.{such_that}
use Rattle.answers.proofs.AnswerLemmas.{bind-single, such_that-single}
use Rattle.linear_systems.proofs.VertexListLemmas.{vertices_determined}
use Rattle.lex_tableau.specs.Starts.{system_of}
use Rattle.basis_enum.specs.Systems.{variable_count}
use Rattle.basis_enum.specs.Reached.{reached_in}
use Rattle.basis_enum.specs.Enumeration.{IsVertexListOf, VerticesAreSingle}
use Rattle.basis_enum.proofs.OneReachedLaws.{reached_once}

pub one_answer : VerticesAreSingle
one_answer s =
    bind-single (reached_in s) (λ reached. such_that (IsVertexListOf s reached)) (reached_once s)
    (λ reached _. such_that-single (IsVertexListOf s reached) (λ v w p q. ap₂ (λ b l. record { bases = b; list = l }) (p.bases ∙ sym q.bases) (vertices_determined (variable_count s) (system_of s) v.list w.list p.list q.list)))

-- ---- want of memory is no reason

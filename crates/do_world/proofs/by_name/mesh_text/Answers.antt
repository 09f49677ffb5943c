use Rattle.do_world.proofs.by_name.mesh_text.Goals as goal
use Rattle.do_world.{specs.Mesh.mesh_text, proofs.MeshText.mesh_is_text}

-- the text has no fault
pub returns-clause-says : goal.returns-clause-says
unfolding mesh_text
returns-clause-says c = mesh_is_text

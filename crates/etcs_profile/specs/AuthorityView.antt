-- A movement authority, as contracts see it, from the packet that the code keeps.
use Rattle.etcs_profile.specs.declared.authority.ByLevel.{ByLevel}
use Rattle.etcs_profile.specs.declared.authority.ByLevel.TheVariants.{Level1, Level2}
use Rattle.etcs_profile.specs.Authority.{AuthorityValue, of_packet_12, of_packet_15}

-- packet 12 has V_MAIN, packet 15 has none
abbrev pub authority_of_view : ByLevel → AuthorityValue
authority_of_view (Level1 p) = of_packet_12 p
authority_of_view (Level2 p) = of_packet_15 p
